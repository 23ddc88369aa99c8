use mathlib.Core.Path.{◌∙◌, sym, ap, refl}
use native.Mathlib.Omega.{arith}
use lib.ListN.{length}
use Rattle.std.specs.Prelude.{Ok}
use Rattle.std.proofs.lemmas.Result.{err_from_is_err_and}
use Rattle.text.proofs.Laid.{length_laid}
use Rattle.salvage.proofs.Results.{planned, plan_reach, end_within, end_is, buffer_is, answer_is, refused_is}
use Rattle.salvage.proofs.Results.{buffer_stays}
use Rattle.restorer.proofs.salvage.Goals as goal

pub write-end-requires : goal.write-end-requires
write-end-requires c =
    let e = sym c.in_ok-keep.ensures in
    record { s_len_bound = (planned _ _ _ e).short; rest_in_bounds = plan_reach _ _ _ e }

-- the end block stands within the bytes, so its place has room in 32 bits
pub overflow_cast-end : goal.overflow_cast-end
overflow_cast-end c =
    let e = sym c.in_ok-keep.ensures in
    let p = planned _ _ _ e in
    let i = end_is _ _ _ e c.args.out.now refl _ c.write-end.ensures.value in
    omega (arith, i, end_within _ p.short p.kept, p.short)

pub returns-in_err-keep : goal.returns-in_err-keep
returns-in_err-keep c =
    let p = err_from_is_err_and c.from_residual.result c.from_residual.ensures.1 in
    let e = sym c.in_err-keep.ensures in
    record { value = rw (p.1, p.2) (refused_is _ _ _ e); out_after = buffer_stays _ _ _ e _ refl }

pub shape_of-out : goal.shape_of-out
shape_of-out c = ap length c.write-end.ensures.out_after ∙ length_laid _ _ _

pub returns : goal.returns
returns c =
    let e = sym c.in_ok-keep.ensures in
    let i = end_is _ _ _ e c.args.out.now refl _ c.write-end.ensures.value in
    record { value = ap Ok c.answer.ensures ∙ answer_is _ _ _ e _ i; out_after = buffer_is _ _ _ e _ refl _ c.write-end.ensures.out_after }

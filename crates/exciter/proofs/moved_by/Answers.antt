-- `exciter::moved_by` meets its contract: the adaptive code, mixed with the ternary one, and the register moved by
-- them.
use mathlib.Core.Path.{◌∙◌, sym, ap}
use mathlib.Core.List.{List}
use borrow.Author.Rules.{rules}
use lib.IntN.{ℤ}
use lib.ListN.{length}
use Rattle.excitation.specs.Register.{holding, moved_by}
use Rattle.excitation.specs.Excitation.{mixed_by, excitation_of}
use Rattle.excitation.specs.Outcome.{register_moved}
use Rattle.excitation.proofs.Periods.{adaptive_sixty}
use Rattle.excitation.proofs.Mixes.{mixed_sixty}
use Rattle.excitation.proofs.Outcomes.{fitting}
use Rattle.exciter.proofs.moved_by.Goals as goal

pub adaptive-requires : goal.adaptive-requires
adaptive-requires c =
    let f = fitting _ _ _ _ c.requires in
    (f.from_twenty, f.upto_last, f.sixty)

pub mix_codes-requires : goal.mix_codes-requires
mix_codes-requires c =
    let f = fitting _ _ _ _ c.requires in
    (f.pg_fits, f.ci_fits, f.cg_fits, ap length c.adaptive.ensures ∙ adaptive_sixty _ _)

pub moved-requires : goal.moved-requires
moved-requires c = record { before_len = search rules; len = ap length c.mix_codes.ensures ∙ mixed_sixty _ _ _ _ }

pub shape_of-out : goal.shape_of-out
shape_of-out c =
    ap length c.mix_codes.ensures ∙ mixed_sixty _ _ _ _ ∙ sym (fitting _ _ _ _ c.requires).sixty

pub returns : goal.returns
unfolding register_moved excitation_of
returns c =
    let whole = c.mix_codes.ensures
    ∙ ap (mixed_by c.args.pg c.args.ci c.args.cg) c.adaptive.ensures in
    record { value = c.moved.ensures ∙ ap (λ (l : List ℤ). holding (moved_by c.args.register.elements l)) whole; out_after = whole }

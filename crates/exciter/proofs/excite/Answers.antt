-- `exciter::excite` meets its contract: a refusal, and the excitation.
use Rattle.std.proofs.Common.{◌∙◌}
use Rattle.std.proofs.lemmas.Result.{err_from_is_err_and}
use Rattle.excitation.proofs.Outcomes.{answered, stays}
use Rattle.exciter.proofs.excite.Goals as goal

pub returns-in_err-outcome_of : goal.returns-in_err-outcome_of
returns-in_err-outcome_of c =
    let x = c.args in
    let p = err_from_is_err_and c.from_residual.result c.from_residual.ensures.1 in
    let s = stays x.register.now x.delay x.pg x.ci x.cg x.out.now c.in_err-outcome_of.ensures in
    record { value = rw (p.1, p.2) s.value; register_after = s.register_after; out_after = s.out_after }

pub returns : goal.returns
returns c =
    let x = c.args in
    let s = answered x.register.now x.delay x.pg x.ci x.cg x.out.now c.in_ok-outcome_of.ensures c.moved_by.ensures.value
    c.moved_by.ensures.out_after in
    record { value = s.value; register_after = s.register_after; out_after = s.out_after }

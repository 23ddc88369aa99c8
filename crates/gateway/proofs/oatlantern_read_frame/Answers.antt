-- `gateway::oatlantern_read_frame` meets its contract: what was read and put, or the refusal.
use mathlib.Core.Path.{◌∙◌, sym}
use native.Mathlib.Omega.{arith}
use borrow.Author.Rules.{sfits_of}
use Rattle.gateway.proofs.Answered.{wrong_frame, not_put, read_small, was_read}
use Rattle.laws.proofs.Clauses.{clauses}
use Rattle.gateway.proofs.oatlantern_read_frame.Goals as goal

pub overflow_mul-result : goal.overflow_mul-result
overflow_mul-result c =
    let h = read_small _ c.args.out.now _ c.in-Some.ensures c.number_for-number.ensures c.kind_of-kind.ensures in omega (arith, h)

pub overflow_add-result : goal.overflow_add-result
overflow_add-result c =
    let h = read_small _ c.args.out.now _ c.in-Some.ensures c.number_for-number.ensures c.kind_of-kind.ensures in omega (arith, h)

pub overflow_add-result-then-put : goal.overflow_add-result-then-put
overflow_add-result-then-put c =
    let h = read_small _ c.args.out.now _ c.in-Some.ensures c.number_for-number.ensures c.kind_of-kind.ensures in omega (arith, h)

pub overflow_cast-result : goal.overflow_cast-result
overflow_cast-result c =
    let h = read_small _ c.args.out.now _ c.in-Some.ensures c.number_for-number.ensures c.kind_of-kind.ensures in sfits_of (omega (arith, h))

pub returns-then-put : goal.returns-then-put
returns-then-put c = clauses (λ value out_after. record { value = value; out_after = out_after }) (was_read _ _ _ c.in-Some.ensures c.number_for-number.ensures c.kind_of-kind.ensures
    (c.put.ensures.value, c.put.ensures.out_after) c.if-put.true)

pub returns : goal.returns
returns c = clauses (λ value out_after. record { value = value; out_after = out_after }) (not_put _ _ _ c.in-Some.ensures (c.put.ensures.value, c.put.ensures.out_after) c.if-put.false)

pub returns-in_default : goal.returns-in_default
returns-in_default c = clauses (λ value out_after. record { value = value; out_after = out_after }) (wrong_frame _ _ (sym c.in_default.is ∙ c.read.ensures))

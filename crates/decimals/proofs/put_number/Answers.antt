use Prim.Native.Nat.{◌+◌, ◌-◌}
use native.Mathlib.Omega.{arith}
use Rattle.laws.proofs.Clauses.{clauses}
use Rattle.text.proofs.Turns.{past, passed_none, passed_more, number_none, number_more, number_all}
use Rattle.decimals.proofs.put_number.Goals as goal

pub returns-then-long-at : goal.returns-then-long-at
returns-then-long-at c = clauses (λ value out_after. record { value = value; out_after = out_after }) (past _ _ _ c.if-long-at.true)

pub loop-init : goal.loop-init
loop-init c = passed_none _ _ _ _ _ c.if-long-at.false (omega arith) (omega arith)

pub loop-preserved : goal.loop-preserved
loop-preserved c =
    passed_more (c.digits-count.result + c.min-kept.result - (c.loop.counter + 1)) (omega arith) c.loop.invariant (omega arith)

pub loop-i-init : goal.loop-i-init
loop-i-init c = number_none c.loop.invariant (omega arith)

pub loop-i-preserved : goal.loop-i-preserved
loop-i-preserved c = number_more c.loop-i.invariant (c.loop-i.i - 1) (omega arith)

pub returns : goal.returns
returns c = clauses (λ value out_after. record { value = value; out_after = out_after }) (number_all c.loop-i.invariant (omega arith))

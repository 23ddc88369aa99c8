-- `exciter::adaptive` meets its contract. Both loops have one invariant: the elements passed are those of the
-- adaptive code.
use Prim.Native.Nat.{◌≤◌, min}
use Rattle.excitation.proofs.Periods.{Coded}
use Rattle.exciter.proofs.adaptive.Given as goal

abbrev pub invariant-loop-t : goal.invariant-loop-t
invariant-loop-t l = Coded l.register l.whole l.t l.out

abbrev pub invariant-loop-t-2 : goal.invariant-loop-t-2
invariant-loop-t-2 l = (min l.whole 60 ≤ l.t) × Coded l.register l.whole l.t l.out

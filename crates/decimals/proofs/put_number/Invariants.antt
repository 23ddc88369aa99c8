-- `decimals::put_number` meets its contract. The first loop passes over the digits that have no room: so many are left
-- as it has not passed. The second lays the others from the last: of the digits from the one at i on, those that have
-- room are laid, and the rest says those before it.
use Prim.Native.Nat.{◌+◌, ◌-◌}
use Rattle.text.proofs.Turns.{Passed, Numbers}
use Rattle.decimals.proofs.put_number.Given as goal

abbrev pub invariant-loop : goal.invariant-loop
invariant-loop l = Passed l.out l.at l.n l.kept (l.count + l.kept - l.counter) l.rest

abbrev pub invariant-loop-i : goal.invariant-loop-i
invariant-loop-i l = Numbers l.initial.out l.at l.n l.kept l.i l.rest l.out

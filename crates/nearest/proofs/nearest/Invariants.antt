-- `nearest::nearest` meets its contract. The loop's invariant: of the entries passed, the one at `best` is the nearest and `near`
-- away, and the lowest such.
use Rattle.std.proofs.Common.{length}
use Rattle.gains.specs.Nearest.{apart_at}
use Rattle.nearest.proofs.Passed.{Passed}
use Rattle.nearest.proofs.nearest.Given as goal

abbrev pub invariant-loop-i : goal.invariant-loop-i
invariant-loop-i l = Passed (apart_at l.table l.x) (length l.table) l.i l.best l.near

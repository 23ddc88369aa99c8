-- `pairs::put_all` meets its contract. The loop's invariant: the bytes passed are the record's.
use Prim.Native.Nat.{◌*◌}
use Rattle.pairs.proofs.Pairs.{Put}
use Rattle.pairs.proofs.put_all.Given as goal

abbrev pub invariant-loop-k : goal.invariant-loop-k
invariant-loop-k l = Put l.index-items (2 * l.k) l.out

-- `reader::add_byte` meets its contract. The loop's invariant: each field holds what the places passed give it.
use Prim.Native.Nat.{◌+◌, ◌*◌}
use Rattle.frame.specs.Frame.{bit_at}
use Rattle.frame.proofs.Gathered.{Gathered, bit_at_small}
use Rattle.reader.proofs.add_byte.Given as goal

abbrev pub invariant-loop-q : goal.invariant-loop-q
invariant-loop-q l = Gathered (bit_at l.frame) (bit_at_small l.frame) (8 * l.n + l.q) l.fields

-- `reader::gather` meets its contract. The loop's invariant: the list holds what the bytes passed give each field.
use mathlib.Core.Path.{◌≡◌}
use Prim.Native.Nat.{◌*◌}
use Rattle.frame.specs.Frame.{bit_at}
use Rattle.frame.specs.Steps.{indices_up_to}
use Rattle.reader.proofs.gather.Given as goal

abbrev pub invariant-loop-n : goal.invariant-loop-n
invariant-loop-n l = l.fields ≡ indices_up_to (bit_at l.frame) (8 * l.n)

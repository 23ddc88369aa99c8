-- `lent::run` is safe: what is lent is within the buffer.
use mathlib.Core.Path.{sym}
use native.Mathlib.Omega.{arith}
use lib.Seq.{length-take-le}
use Rattle.lent.proofs.run.Goals as goal

pub slice_bounds-lend-end-2 : goal.slice_bounds-lend-end-2
slice_bounds-lend-end-2 g c = sym (length-take-le _ _ (omega (arith, c.min-room.ensures)))

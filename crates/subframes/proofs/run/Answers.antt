-- `subframes::run` is safe: what is lent is within the room.
use mathlib.Core.Path.{sym}
use native.Mathlib.Omega.{arith}
use lib.Seq.{length-take-le}
use Rattle.subframes.proofs.run.Goals as goal

pub slice_bounds-made-end-2 : goal.slice_bounds-made-end-2
slice_bounds-made-end-2 g c = sym (length-take-le _ _ (omega arith))

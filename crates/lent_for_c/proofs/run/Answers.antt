-- `lent_for_c::run` is safe: what is lent is within the buffer.
use mathlib.Core.Path.{sym}
use native.Mathlib.Omega.{arith}
use lib.Seq.{length-take-le}
use Rattle.lent_for_c.proofs.run.Goals as goal

pub slice_bounds-salvaged-end-2 : goal.slice_bounds-salvaged-end-2
slice_bounds-salvaged-end-2 g c = sym (length-take-le _ _ (omega (arith, c.min-first.ensures)))

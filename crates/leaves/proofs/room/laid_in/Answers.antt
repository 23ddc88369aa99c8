-- `leaves::room::laid_in` is safe: the part lent is as long as it is cut.
use Rattle.std.proofs.Common.{sym, arith, length-take-le}
use Rattle.leaves.proofs.room.laid_in.Goals as goal

pub slice_bounds-laid-end-2 : goal.slice_bounds-laid-end-2
slice_bounds-laid-end-2 c = sym (length-take-le _ _ (omega arith))

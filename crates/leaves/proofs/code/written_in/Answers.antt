-- `leaves::code::written_in` is safe: the part lent is as long as it is cut.
use Rattle.std.proofs.Common.{sym, arith, length-take-le}
use Rattle.leaves.proofs.code.written_in.Goals as goal

pub slice_bounds-write_code-end-2 : goal.slice_bounds-write_code-end-2
slice_bounds-write_code-end-2 c = sym (length-take-le _ _ (omega arith))

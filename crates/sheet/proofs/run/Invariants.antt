-- `sheet::run` is safe, and ends: each call takes the byte of its kind, at least, off what is left.
use Rattle.std.proofs.Common.{length}
use Rattle.sheet.proofs.run.Given as goal

abbrev pub decreases-loop-kind : goal.decreases-loop-kind
decreases-loop-kind g l = length l.left

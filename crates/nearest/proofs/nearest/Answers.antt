use Rattle.std.proofs.Common.{◌∙◌, ap, arith, to_z-of_z}
use Rattle.gains.specs.Nearest.{nearest_of}
use Rattle.nearest.proofs.Passed.{all_passed}
use Rattle.nearest.proofs.nearest.Goals as goal

pub returns : goal.returns
returns c = all_passed _ c.args.table.now (omega arith) c.loop-i.invariant ∙ ap (nearest_of c.args.table.now) (to_z-of_z c.ranges.x)

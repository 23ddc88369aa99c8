-- `nearest::nearest_cg` meets its contract: the constant `CG` is the list `cg_table`.
use mathlib.Core.Path.{◌∙◌, ap}
use mir.Facts.{to_z-of_z}
use Rattle.gains.specs.Tables.{cg_table}
use Rattle.gains.specs.Nearest.{nearest_of}
use Rattle.nearest.proofs.nearest_cg.Goals as goal

pub returns : goal.returns
unfolding cg_table
returns c = c.nearest.ensures ∙ ap (nearest_of cg_table) (to_z-of_z c.ranges.x)

-- `nearest::nearest_pg` meets its contract: the constant `PG` is the list `pg_table`.
use mathlib.Core.Path.{◌∙◌, ap}
use mir.Facts.{to_z-of_z}
use Rattle.gains.specs.Tables.{pg_table}
use Rattle.gains.specs.Nearest.{nearest_of}
use Rattle.nearest.proofs.nearest_pg.Goals as goal

pub returns : goal.returns
unfolding pg_table
returns c = c.nearest.ensures ∙ ap (nearest_of pg_table) (to_z-of_z c.ranges.x)

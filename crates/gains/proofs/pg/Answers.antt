-- `gains::pg` meets its contract: the constant `PG` is the list `pg_table`.
use Rattle.gains.specs.Tables.{pg_table}
use Rattle.gains.proofs.pg.Goals as goal

pub returns : goal.returns
unfolding pg_table
returns c = c.gain_at.ensures

-- `gains::cg` meets its contract: the constant `CG` is the list `cg_table`.
use Rattle.gains.specs.Tables.{cg_table}
use Rattle.gains.proofs.cg.Goals as goal

pub returns : goal.returns
unfolding cg_table
returns c = c.gain_at.ensures

-- `tally::entries` meets its contract.
use native.Mathlib.Omega.{arith}
use Rattle.tally.proofs.Rows.{entries_least}
use Rattle.tally.proofs.entries.Goals as goal

pub returns : goal.returns
returns c = entries_least _ (omega arith)

use Rattle.std.proofs.Common.{arith}
use Rattle.laws.proofs.Filled.{filled_done}
use Rattle.lsp.specs.Table.{hz_at}
use Rattle.lsp.proofs.Columns.{row_small, one_looked}
use Rattle.hertz.proofs.looked_up.Goals as goal

-- an index that fits is a row of the table
pub bounds-table-row : goal.bounds-table-row
bounds-table-row c =
    omega (arith, row_small c.args.indices c.loop-i.i c.requires.indices_value c.loop-i-test.true)

pub loop-i-preserved : goal.loop-i-preserved
loop-i-preserved c =
    rw c.from-row.ensures
    (one_looked c.args.table.now c.args.indices c.requires.printed c.requires.indices_value c.loop-i.invariant
    c.loop-i-test.true)

pub returns : goal.returns
returns c = filled_done 0 (hz_at c.args.indices) 10 _ (omega arith) c.loop-i.invariant

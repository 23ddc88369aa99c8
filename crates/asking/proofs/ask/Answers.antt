-- `asking::ask` meets its contract, by the row of the key.
use native.Mathlib.Omega.{arith}
use Rattle.tally.proofs.Rows.{told_fits, row_held, row_none}
use Rattle.asking.proofs.ask.Goals as goal

pub bounds-book-row : goal.bounds-book-row
bounds-book-row c = omega (arith, told_fits _ c.entries-end.ensures)

pub returns-then-row-end : goal.returns-then-row-end
returns-then-row-end c =
    row_held _ _ _ c.row_of-row.ensures c.entries-end.ensures (omega arith)

pub returns-else-row-end : goal.returns-else-row-end
returns-else-row-end c =
    row_none _ _ _ c.row_of-row.ensures c.entries-end.ensures (omega arith)

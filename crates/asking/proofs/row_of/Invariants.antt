-- `asking::row_of` meets its contract. The loop's invariant: the place of the key among the rows from `row` on is its
-- place in the book. Each turn is one of `Seeking`.
use Rattle.tally.proofs.Rows.{Seeking}
use Rattle.asking.proofs.row_of.Given as goal

abbrev pub invariant-loop-row : goal.invariant-loop-row
invariant-loop-row l = Seeking l.book l.end l.unit l.number l.row

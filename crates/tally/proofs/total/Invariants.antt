-- `tally::total` meets its contract. The loop's invariant: the sum so far and what the rows from `row` on add is the
-- total. Each turn is one of `Summing`.
use Rattle.tally.proofs.Rows.{Summing}
use Rattle.tally.proofs.total.Given as goal

abbrev pub invariant-loop-row : goal.invariant-loop-row
invariant-loop-row l = Summing l.book l.last l.unit l.sum l.row

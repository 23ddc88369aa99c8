-- `decimals::put_list` meets its contract. The loop's invariant: the numbers passed are laid, a space before each.
use Rattle.text.proofs.Rows.{Row}
use Rattle.decimals.proofs.put_list.Given as goal

abbrev pub invariant-loop-x : goal.invariant-loop-x
invariant-loop-x l = Row l.initial.out l.at l.xs l.out l.end l.x-index

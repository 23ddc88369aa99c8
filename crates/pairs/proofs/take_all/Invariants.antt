-- `pairs::take_all` meets its contract. The loops' invariants: the places passed hold the indices of their fields.
use Rattle.pairs.proofs.Pairs.{TakenLsp, TakenSubframes}
use Rattle.pairs.proofs.take_all.Given as goal

abbrev pub invariant-loop-k : goal.invariant-loop-k
invariant-loop-k l = TakenLsp l.bytes l.k l.index-items

abbrev pub invariant-loop-n : goal.invariant-loop-n
invariant-loop-n l = TakenSubframes l.bytes l.n l.index-items

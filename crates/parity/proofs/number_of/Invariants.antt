-- `parity::number_of` meets its contract. The loop's invariant: the exclusive or of the numbers of the guarded bits
-- passed that are 1.
use Rattle.frame.proofs.Number.{Summed}
use Rattle.parity.proofs.number_of.Given as goal

abbrev pub invariant-loop-n : goal.invariant-loop-n
invariant-loop-n l = Summed l.fields l.n l.number

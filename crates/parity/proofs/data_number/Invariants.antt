-- `parity::data_number` meets its contract. The loop's invariant: none of the numbers passed is that of the bit.
use Rattle.laws.proofs.Lowest.{NoneUpTo}
use Rattle.frame.proofs.Corrections.{here}
use Rattle.parity.proofs.data_number.Given as goal

abbrev pub invariant-loop-k : goal.invariant-loop-k
invariant-loop-k l = NoneUpTo (here l.f l.i) l.k

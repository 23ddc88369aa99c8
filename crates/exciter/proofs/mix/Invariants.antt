-- `exciter::mix` meets its contract. The loop's invariant: the elements passed are mixed, the others are still those
-- of the adaptive code.
use Rattle.excitation.proofs.Mixes.{Mixed}
use Rattle.exciter.proofs.mix.Given as goal

abbrev pub invariant-loop-k : goal.invariant-loop-k
invariant-loop-k l = Mixed l.cg l.code l.pg l.initial.out l.k l.out

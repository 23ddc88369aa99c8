use Rattle.restorer.proofs.Puts.{Laying}
use Rattle.restorer.proofs.put_voices.Given as goal

abbrev pub invariant-loop-left : goal.invariant-loop-left
invariant-loop-left l = Laying l.initial.out l.start l.s l.frames l.out l.end l.at l.left

abbrev pub decreases-loop-left : goal.decreases-loop-left
decreases-loop-left l = l.left

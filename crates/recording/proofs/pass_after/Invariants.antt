use Rattle.passes.proofs.Through.{Going}
use Rattle.recording.proofs.pass_after.Given as goal

abbrev pub invariant-loop : goal.invariant-loop
invariant-loop l = Going l.initial.pass.state l.s l.counter l.pass

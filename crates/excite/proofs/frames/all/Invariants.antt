-- `excite::frames::all` meets its contract. The loop's invariant: pass and register are those after the frames passed.
use Rattle.excite.proofs.Runs.{After}
use Rattle.excite.proofs.frames.all.Given as goal

abbrev pub invariant-loop-k : goal.invariant-loop-k
invariant-loop-k g l = After l.s l.k l.pass l.register

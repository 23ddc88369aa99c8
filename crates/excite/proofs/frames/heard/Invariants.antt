-- `excite::frames::heard` meets its contract. The loop's invariant: the register is the one after the subframes passed.
use Rattle.excite.proofs.Runs.{Within}
use Rattle.excite.proofs.frames.heard.Given as goal

abbrev pub invariant-loop-n : goal.invariant-loop-n
invariant-loop-n g l = Within l.delays l.indices l.initial.register l.n l.register

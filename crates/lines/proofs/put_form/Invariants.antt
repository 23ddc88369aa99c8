use Rattle.lines.proofs.Forms.{Laying}
use Rattle.lines.proofs.put_form.Given as goal

abbrev pub invariant-loop-c : goal.invariant-loop-c
invariant-loop-c l = Laying l.initial.out l.at l.fn.form.numbers l.c-items l.out l.end l.c-index

-- `text::put_word` meets its contract. The loop's invariant: the bytes passed are laid.
use Rattle.text.proofs.Turns.{Words}
use Rattle.text.proofs.put_word.Given as goal

abbrev pub invariant-loop-i : goal.invariant-loop-i
invariant-loop-i l = Words l.initial.out l.at l.word l.size l.i l.out

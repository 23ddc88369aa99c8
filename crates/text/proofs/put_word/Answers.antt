-- `text::put_word` meets its contract: nothing past the end, or as much of the word as there is room for.
use native.Mathlib.Omega.{arith}
use Rattle.laws.proofs.Clauses.{clauses}
use Rattle.text.proofs.Turns.{past, word_none, word_more, word_all}
use Rattle.text.proofs.put_word.Goals as goal

pub returns-then-long-at : goal.returns-then-long-at
returns-then-long-at c = clauses (λ value out_after. record { value = value; out_after = out_after }) (past _ _ _ c.if-long-at.true)

pub loop-i-init : goal.loop-i-init
loop-i-init c = word_none _ _ _ _ c.if-long-at.false c.least-size.ensures

pub loop-i-preserved : goal.loop-i-preserved
loop-i-preserved c = word_more c.loop-i.invariant c.loop-i-test.true

pub returns : goal.returns
returns c = clauses (λ value out_after. record { value = value; out_after = out_after })
    (word_all c.loop-i.invariant (omega arith))

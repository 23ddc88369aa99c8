-- `lines::frame` meets its contract: after the correction and its letter the refusal, or the numbers of what was heard.
use Rattle.lines.proofs.Lines.{said_refused, said_heard}
use Rattle.lines.proofs.frame.Goals as goal

pub returns-then-refusal-ne0 : goal.returns-then-refusal-ne0
returns-then-refusal-ne0 c =
    said_refused c.args.said c.letter_of-letter.ensures c.number_for-corrected.ensures
    c.if-refusal-ne0.true

pub returns : goal.returns
returns c =
    said_heard c.args.said c.letter_of-letter.ensures c.number_for-corrected.ensures c.if-refusal-ne0.false

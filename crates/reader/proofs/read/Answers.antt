-- `reader::read` meets its contract: each step's answer handed to the next.
use Rattle.frame.proofs.Answered.{none_read, some_read, read_whole}
use Rattle.reader.proofs.read.Goals as goal

pub returns-then-frame-ne18 : goal.returns-then-frame-ne18
returns-then-frame-ne18 c = none_read _ c.if-frame-ne18.true

pub returns : goal.returns
returns c =
    some_read _ c.if-frame-ne18.false
    (read_whole _ _ _ c.gather-received.ensures c.number_of.ensures _ _ _ _
    c.if-frame-ne18.false c.correction_of-correction.ensures
    c.mend.ensures c.to_record-indices.ensures c.mark_of-mark.ensures)

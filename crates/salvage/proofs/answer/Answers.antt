use Rattle.salvage.proofs.Returns.{answer_sound, answer_mended}
use Rattle.salvage.proofs.answer.Goals as goal

pub returns-then-sound : goal.returns-then-sound
returns-then-sound c = answer_sound _ _ _ _ c.if-sound.true

pub returns : goal.returns
returns c = answer_mended _ _ _ _ c.if-sound.false c.changes_by.ensures

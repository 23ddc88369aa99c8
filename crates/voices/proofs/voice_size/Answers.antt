use mathlib.Core.Path.{◌∙◌, sym, ap}
use Rattle.std.specs.Prelude.{Ok}
use Rattle.blocks.proofs.Voices.{head_no_voice, voice_itself, end_no_voice, broken_no_voice}
use Rattle.voices.proofs.voice_size.Goals as goal

pub returns-in-Ok-Head : goal.returns-in-Ok-Head
returns-in-Ok-Head c = head_no_voice _ _ _ (sym c.in-Ok-Head.ensures ∙ ap Ok c.in-Ok-Head.field-0-is)

pub returns-in-Ok-Voice : goal.returns-in-Ok-Voice
returns-in-Ok-Voice c = voice_itself _ _ _ (sym c.in-Ok-Voice.ensures ∙ ap Ok c.in-Ok-Voice.field-0-is)

pub returns-in-Ok-End : goal.returns-in-Ok-End
returns-in-Ok-End c = end_no_voice _ _ _ (sym c.in-Ok-End.ensures ∙ ap Ok c.in-Ok-End.field-0-is)

pub returns-in-Err : goal.returns-in-Err
returns-in-Err c = broken_no_voice _ _ _ (sym c.in-Err.ensures)

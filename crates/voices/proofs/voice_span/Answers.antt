use mathlib.Core.Path.{◌∙◌}
use Rattle.blocks.proofs.Voices.{span_refused, span_sound}
use Rattle.voices.proofs.voice_span.Goals as goal

pub returns-in-Err : goal.returns-in-Err
returns-in-Err c = span_refused _ _ _ _ c.walk_through-walked.ensures c.in-Err.is

pub returns-in-Ok : goal.returns-in-Ok
returns-in-Ok c =
    c.span_from.ensures
    ∙ span_sound _ _ _ c.walk_through-walked.ensures c.in-Ok.is

use mathlib.Core.Path.{◌∙◌, sym, ap}
use native.Mathlib.Omega.{arith}
use Rattle.std.specs.Prelude.{Ok}
use Rattle.blocks.proofs.Blocks.{head_held, voice_held, end_held}
use Rattle.blocks.proofs.Walks.{step_met}
use Rattle.walk.proofs.advance.Goals as goal

pub meet_head-requires : goal.meet_head-requires
meet_head-requires c =
    let r = head_held _ _ _ (sym c.in-Ok-Head.ensures ∙ ap Ok c.in-Ok-Head.field-0-is) in
    omega (arith, r.0.fits, c.requires)

pub meet_voice-requires : goal.meet_voice-requires
meet_voice-requires c =
    let r = voice_held _ _ _ (sym c.in-Ok-Voice.ensures ∙ ap Ok c.in-Ok-Voice.field-0-is) in
    record { size_bound = omega (arith, r.0.fits, c.requires); frames_bound = c.requires.frames_bound }

pub meet_end-requires : goal.meet_end-requires
meet_end-requires c =
    let r = end_held _ _ _ (sym c.in-Ok-End.ensures ∙ ap Ok c.in-Ok-End.field-0-is) in
    omega (arith, r.0.fits, c.requires)

pub returns-in-Ok-Head : goal.returns-in-Ok-Head
returns-in-Ok-Head c =
    c.meet_head.ensures ∙ step_met _ c.args.w _ (sym c.in-Ok-Head.ensures ∙ ap Ok c.in-Ok-Head.field-0-is)

pub returns-in-Ok-Voice : goal.returns-in-Ok-Voice
returns-in-Ok-Voice c =
    c.meet_voice.ensures ∙ step_met _ c.args.w _ (sym c.in-Ok-Voice.ensures ∙ ap Ok c.in-Ok-Voice.field-0-is)

pub returns-in-Ok-End : goal.returns-in-Ok-End
returns-in-Ok-End c =
    c.meet_end.ensures ∙ step_met _ c.args.w _ (sym c.in-Ok-End.ensures ∙ ap Ok c.in-Ok-End.field-0-is)

pub returns-in-Err : goal.returns-in-Err
returns-in-Err c =
    c.refuse.ensures ∙ step_met _ c.args.w _ (sym c.in-Err.ensures)

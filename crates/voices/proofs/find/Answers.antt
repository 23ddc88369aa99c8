use native.Mathlib.Omega.{arith}
use Rattle.blocks.proofs.Voices.{voice_sized}
use Rattle.blocks.proofs.Frames.{no_voice, first_frame, too_few_left, too_short, next_frame}
use Rattle.voices.proofs.find.Goals as goal
use Rattle.voices.proofs.find.Goals.{then-left-lt18-via-then-left-lt18, then-left-lt18-via-else-left-lt18+then-s-lt18, then-left-lt18-via-else-left-lt18+else-s-lt18+then-s-at}

pub returns-then-size-eq0 : goal.returns-then-size-eq0
returns-then-size-eq0 c = no_voice _ _ _ _ c.if-left-eq0.true c.voice_size-size.ensures c.if-size-eq0.true

pub overflow_add-result : goal.overflow_add-result
overflow_add-result c = let t = voice_sized _ _ _ c.voice_size-size.ensures c.if-size-eq0.false in omega (arith, t.fits)

pub overflow_sub-result : goal.overflow_sub-result
overflow_sub-result c = let t = voice_sized _ _ _ c.voice_size-size.ensures c.if-size-eq0.false in omega (arith, t.least)

pub returns-then-left-eq0 : goal.returns-then-left-eq0
returns-then-left-eq0 c = first_frame _ _ _ _ c.if-left-eq0.true c.voice_size-size.ensures c.if-size-eq0.false

pub returns-then-left-lt18 : goal.returns-then-left-lt18
returns-then-left-lt18 c =
    elim c.then-left-lt18.branch [
      | then-left-lt18-via-then-left-lt18 w ↦ too_few_left _ _ _ c.if-left-eq0.false w.if-left-lt18.true
      | then-left-lt18-via-else-left-lt18+then-s-lt18 w ↦
          too_short _ _ _ c.if-left-eq0.false w.if-left-lt18.false (omega arith)
      | then-left-lt18-via-else-left-lt18+else-s-lt18+then-s-at w ↦
          too_short _ _ _ c.if-left-eq0.false w.if-left-lt18.false (omega arith)
    ]

pub returns : goal.returns
returns c = next_frame _ _ _ c.if-left-eq0.false c.if-left-lt18.false (omega arith)

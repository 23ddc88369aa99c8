use mathlib.Core.Path.{◌∙◌}
use native.Mathlib.Omega.{arith}
use Rattle.blocks.proofs.Walks.{voice_first, voice_passed}
use Rattle.walk.proofs.meet_voice.Goals as goal

pub overflow_add-next : goal.overflow_add-next
overflow_add-next c = omega (arith, c.requires)

pub overflow_add-next-then-w : goal.overflow_add-next-then-w
overflow_add-next-then-w c = omega (arith, c.requires)

pub overflow_cast-more : goal.overflow_cast-more
overflow_cast-more c = omega (arith, c.requires)

pub overflow_add-frames : goal.overflow_add-frames
overflow_add-frames c = omega (arith, c.requires)

pub returns-then-w : goal.returns-then-w
returns-then-w c = voice_passed _ _ c.if-w.true

pub returns : goal.returns
returns c = c.refuse.ensures ∙ voice_first c.args.w _ c.if-w.false

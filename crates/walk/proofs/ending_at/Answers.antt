use native.Mathlib.Omega.{arith}
use Rattle.blocks.proofs.Walks.{end_early, wrong_count, extra_bytes, end_right}
use Rattle.walk.proofs.ending_at.Goals as goal

pub returns-then-frames-eq0 : goal.returns-then-frames-eq0
returns-then-frames-eq0 c = end_early _ _ _ _ c.if-frames-eq0.true

pub returns-then-told-frames : goal.returns-then-told-frames
returns-then-told-frames c = wrong_count _ _ _ _ c.if-frames-eq0.false c.if-told-frames.true

pub overflow_add-after : goal.overflow_add-after
overflow_add-after c = omega (arith, c.requires)

pub overflow_add-after-2 : goal.overflow_add-after-2
overflow_add-after-2 c = omega (arith, c.requires)

pub returns-then-long-after : goal.returns-then-long-after
returns-then-long-after c = extra_bytes _ _ _ _ c.if-frames-eq0.false c.if-told-frames.false c.if-long-after.true

pub returns : goal.returns
returns c = end_right _ _ _ _ c.if-frames-eq0.false c.if-told-frames.false c.if-long-after.false

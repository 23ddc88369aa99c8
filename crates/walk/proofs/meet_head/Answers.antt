use mathlib.Core.Path.{◌∙◌}
use native.Mathlib.Omega.{arith}
use Rattle.blocks.proofs.Walks.{second_head, first_head}
use Rattle.walk.proofs.meet_head.Goals as goal

pub returns-then-w : goal.returns-then-w
returns-then-w c = c.refuse.ensures ∙ second_head c.args.w _ c.if-w.true

pub overflow_add-next : goal.overflow_add-next
overflow_add-next c = omega (arith, c.requires)

pub overflow_add-next-2 : goal.overflow_add-next-2
overflow_add-next-2 c = omega (arith, c.requires)

pub returns : goal.returns
returns c = first_head c.args.w _ c.if-w.false

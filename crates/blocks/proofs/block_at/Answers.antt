use native.Mathlib.Omega.{arith}
use Rattle.blocks.proofs.Blocks.{nothing_left, header_cut, past_end}
use Rattle.blocks.proofs.block_at.Goals as goal

pub returns-then-long-at : goal.returns-then-long-at
returns-then-long-at c = nothing_left _ _ c.if-long-at.true

pub returns-then-long-at-lt6 : goal.returns-then-long-at-lt6
returns-then-long-at-lt6 c = header_cut _ _ c.if-long-at.false (omega arith)

pub returns-then-long-at-2 : goal.returns-then-long-at-2
returns-then-long-at-2 c = past_end _ _ (omega arith) (let e = c.word-size.ensures in omega (arith, e))

pub returns : goal.returns
returns c = c.block_by_kind.ensures

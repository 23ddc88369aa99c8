use mathlib.Core.Path.{◌∙◌}
use native.Mathlib.Omega.{arith}
use borrow.Author.Tests.{le-ltb}
use Rattle.blocks.proofs.Blocks.{right_head, right_empty, right_some, right_end, right_other}
use Rattle.blocks.proofs.right_size.Goals as goal

pub returns-in-1 : goal.returns-in-1
returns-in-1 c = right_head _ _ c.in-1.is

pub returns-then-size-gt0 : goal.returns-then-size-gt0
returns-then-size-gt0 c = right_some _ _ c.in-2.is (λ z. omega arith)

pub returns-else-size-gt0 : goal.returns-else-size-gt0
returns-else-size-gt0 c = le-ltb 0 _ (omega arith) ∙ right_empty _ _ c.in-2.is (omega arith)

pub returns-in-3 : goal.returns-in-3
returns-in-3 c = right_end _ _ c.in-3.is

pub returns-in_default : goal.returns-in_default
returns-in_default c = right_other _ _ (λ z. omega arith) (λ z. omega arith) (λ z. omega arith)

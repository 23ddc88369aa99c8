use mathlib.Core.Path.{◌∙◌, sym}
use native.Mathlib.Omega.{arith}
use Rattle.blocks.proofs.Walks.{too_long, walked_from}
use Rattle.walk.proofs.walk_through.Goals as goal

pub returns-then-s-gt65536 : goal.returns-then-s-gt65536
returns-then-s-gt65536 c = too_long _ c.if-s-gt65536.true

pub walk_from-requires : goal.walk_from-requires
walk_from-requires c = record { s_len_bound = c.if-s-gt65536.false; frames_bound = omega arith }

pub returns : goal.returns
returns c = c.walk_from.ensures ∙ sym (walked_from _ c.if-s-gt65536.false)

use mathlib.Core.Path.{◌∙◌, sym}
use native.Mathlib.Omega.{arith}
use Rattle.blocks.proofs.Walks.{walking_start, walking_on, walking_done, step_further}
use Rattle.walk.proofs.walk_from.Goals as goal

pub loop-next-init : goal.loop-next-init
loop-next-init c = walking_start _ _ c.requires.frames_bound

pub advance-requires : goal.advance-requires
advance-requires c = record { s_len_bound = c.requires.s_len_bound; frames_bound = c.loop-next.invariant.room }

pub loop-next-smaller : goal.loop-next-smaller
loop-next-smaller c =
    let f = step_further _ _ _ (sym c.advance.ensures ∙ c.in-Continue.is) in
    omega (arith, f.on, f.within)

pub loop-next-preserved : goal.loop-next-preserved
loop-next-preserved c =
    walking_on _ c.loop-next.invariant
    (sym c.advance.ensures ∙ c.in-Continue.is)

pub returns-in-Break : goal.returns-in-Break
returns-in-Break c =
    walking_done _ c.loop-next.invariant
    (sym c.advance.ensures ∙ c.in-Break.is)

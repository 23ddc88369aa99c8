use native.Mathlib.Omega.{arith}
use Rattle.blocks.proofs.Frames.{found_within}
use Rattle.frame.proofs.Answered.{read_in_any}
use Rattle.passes.proofs.Hearings.{heard_frame}
use Rattle.passes.proofs.Passes.{ahead_is, went_past}
use Rattle.steps.proofs.hear.Goals as goal

pub overflow_add-end : goal.overflow_add-end
overflow_add-end c = let a = ahead_is _ _ _ c.requires in omega (arith, (found_within _ _ _ _ a.found).fits)

pub slice_bounds-read-end : goal.slice_bounds-read-end
slice_bounds-read-end c = let a = ahead_is _ _ _ c.requires in omega (arith, (found_within _ _ _ _ a.found).fits)

pub past-requires : goal.past-requires
past-requires c =
    let a = ahead_is _ _ _ c.requires in
    record { frames_le_longest = omega (arith, a.most); repaired_le_longest = omega (arith, a.most, a.few); breaks_le_longest = omega (arith, a.most, a.seldom) }

pub returns : goal.returns
returns c =
    let p = c.args.pass in went_past _ p _ (heard_frame p.state _
    (read_in_any _ c.read.ensures c.nothing.ensures c.unwrap_or-reading.ensures) c.values_of-values.ensures) c.past.ensures

use native.Mathlib.Omega.{arith}
use mathlib.Core.Path.{◌∙◌, ap, refl}
use Rattle.passes.specs.Counted.{breaks_at}
use Rattle.passes.proofs.Passes.{past_frame_lem}
use Rattle.steps.proofs.past.Goals as goal

pub overflow_add-frames : goal.overflow_add-frames
overflow_add-frames c = omega arith

pub returns : goal.returns
returns c =
    past_frame_lem c.args.pass c.args.hearing _ _ refl
    (c.breaks_at-at.ensures ∙ ap breaks_at c.last_before.ensures) c.counted-counts.ensures

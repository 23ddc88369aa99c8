use mathlib.Core.Path.{◌∙◌, ap}
use native.Mathlib.Omega.{arith}
use Rattle.passes.specs.Pass.{pass_at}
use Rattle.passes.proofs.Through.{going_start, going_on, going_stays}
use Rattle.recording.proofs.pass_after.Goals as goal

pub loop-init : goal.loop-init
loop-init c = going_start _ _ c.requires

pub returns-then-step-pass : goal.returns-then-step-pass
returns-then-step-pass c = going_stays c.loop.invariant c.next-step.ensures c.if-step-pass.true (omega arith)

pub loop-preserved : goal.loop-preserved
loop-preserved c = going_on c.loop.invariant c.next-step.ensures

pub returns : goal.returns
returns c = c.loop.invariant.here ∙ ap (pass_at _ _) (omega arith)

use Rattle.std.proofs.Common.{◌∙◌, ap}
use Rattle.values.specs.declared.State.{State}
use Rattle.passes.specs.Pass.{start_of}
use Rattle.excite.proofs.Runs.{after_none, after_more}
use Rattle.excite.proofs.frames.all.Goals as goal

pub loop-k-init : goal.loop-k-init
loop-k-init g c =
    let s = c.args.s.now in
    after_none s (c.start-pass.ensures ∙ ap (λ (x : State). start_of x s) c.fresh.ensures) c.silent-register.ensures

pub loop-k-preserved : goal.loop-k-preserved
loop-k-preserved g c = after_more c.loop-k.invariant c.next-step.ensures c.in_ok-register.ensures

use native.Mathlib.Omega.{arith}
use Rattle.frame.proofs.Number.{summed_none, summed_more, next_guarded}
use Rattle.frame.proofs.Number.{next_field}
use Rattle.parity.proofs.number_of.Goals as goal

pub loop-n-init : goal.loop-n-init
loop-n-init c = summed_none _

pub bounds-fields-f : goal.bounds-fields-f
bounds-fields-f c = next_field _ c.guarded-guarded.ensures c.loop-n.n (omega arith)

pub loop-n-preserved : goal.loop-n-preserved
loop-n-preserved c =
    summed_more _ c.loop-n.invariant (omega arith) _ (omega arith)
    (next_guarded _ c.guarded-guarded.ensures c.loop-n.n c.args.fields)

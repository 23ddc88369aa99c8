use Rattle.std.proofs.Common.{arith}
use Rattle.excite.proofs.Runs.{within_none, within_more, within_all}
use Rattle.excite.proofs.frames.heard.Goals as goal

pub loop-n-init : goal.loop-n-init
loop-n-init g c = within_none _ _ _

pub loop-n-preserved : goal.loop-n-preserved
loop-n-preserved g c = within_more c.loop-n.invariant (omega arith) c.subframe.ensures

pub returns : goal.returns
returns g c = within_all c.loop-n.invariant (omega arith)

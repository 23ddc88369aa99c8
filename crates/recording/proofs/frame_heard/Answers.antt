use Rattle.recording.proofs.Judging.{sought_none, sought}
use Rattle.recording.proofs.frame_heard.Goals as goal

pub returns-then-k-eq0 : goal.returns-then-k-eq0
returns-then-k-eq0 c = sought_none _ _ _ c.if-k-eq0.true c.heard_after.ensures

pub returns : goal.returns
returns c = sought _ _ _ c.if-k-eq0.false c.heard_after-2.ensures

use Rattle.recording.proofs.Judging.{started_own, heard_next}
use Rattle.recording.proofs.heard_after.Goals as goal

pub pass_after-requires : goal.pass_after-requires
pass_after-requires c = started_own _ _ c.start-start.ensures

pub returns : goal.returns
returns c =
    heard_next _ _ c.fresh.ensures c.start-start.ensures c.pass_after.ensures c.next-step.ensures

use Rattle.passes.proofs.Passes.{start_sound, start_refused}
use Rattle.passes.proofs.start.Goals as goal

pub returns-in-Ok : goal.returns-in-Ok
returns-in-Ok c = start_sound _ _ c.walk_through-walked.ensures c.in-Ok.is
    c.begun.ensures

pub returns-in-Err : goal.returns-in-Err
returns-in-Err c = start_refused _ _ c.walk_through-walked.ensures c.in-Err.is
    c.begun-in-Err.ensures

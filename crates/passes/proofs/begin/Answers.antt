use Rattle.passes.proofs.begin.Goals as goal

pub returns : goal.returns
returns c = c.begun.ensures

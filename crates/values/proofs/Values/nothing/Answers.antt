-- `values::Values::nothing` meets its contract.
use Rattle.values.specs.Values.{nothing_heard}
use Rattle.values.proofs.Values.nothing.Goals as goal

pub returns : goal.returns
unfolding nothing_heard
returns c = c.refused.ensures

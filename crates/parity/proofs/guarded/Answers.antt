-- `parity::guarded` meets its contract: the constant is the list of the definitions.
use mathlib.Core.Path.{refl}
use Rattle.frame.specs.Steps.{guarded_entries}
use Rattle.parity.proofs.guarded.Goals as goal

pub returns : goal.returns
unfolding guarded_entries
returns c = refl

-- `frame::table` meets its contract: the constant is the table of the definitions.
use mathlib.Core.Path.{refl}
use Rattle.frame.specs.Places.{places}
use Rattle.frame.specs.Steps.{entries}
use Rattle.frame.proofs.table.Goals as goal

pub returns : goal.returns
unfolding entries places
returns c = refl

-- `tally::clear` meets its contract.
use mathlib.Core.Path.{refl}
use Rattle.tally.specs.Book.{emptied}
use Rattle.tally.proofs.clear.Goals as goal

pub returns : goal.returns
unfolding emptied
returns c = refl

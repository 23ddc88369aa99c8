-- `frame::Reading::nothing` meets its contract.
use mathlib.Core.Path.{refl}
use Rattle.laws.specs.Tabulate.{tabulate_from}
use Rattle.frame.proofs.Reading.nothing.Goals as goal

pub returns : goal.returns
unfolding tabulate_from
returns c = refl

-- `values::Values::refused` meets its contract.
use mathlib.Core.Path.{refl}
use Rattle.laws.specs.Tabulate.{tabulate_from}
use Rattle.values.specs.Values.{refused_values}
use Rattle.values.proofs.Values.refused.Goals as goal

pub returns : goal.returns
unfolding refused_values tabulate_from
returns c = refl

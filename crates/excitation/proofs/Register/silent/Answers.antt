-- `Register::silent` meets its contract.
use mathlib.Core.Path.{refl}
use Rattle.laws.specs.Tabulate.{tabulate_from}
use Rattle.excitation.specs.Register.{silent_register}
use Rattle.excitation.proofs.Register.silent.Goals as goal

pub returns : goal.returns
unfolding silent_register tabulate_from
returns c = refl

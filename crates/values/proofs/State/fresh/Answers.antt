-- `values::State::fresh` meets its contract.
use mathlib.Core.Path.{refl}
use Rattle.laws.specs.Tabulate.{tabulate_from}
use Rattle.values.specs.Values.{fresh_state}
use Rattle.values.proofs.State.fresh.Goals as goal

pub returns : goal.returns
unfolding fresh_state tabulate_from
returns c = refl

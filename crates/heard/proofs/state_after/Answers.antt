-- `heard::state_after` meets its contract.
use mathlib.Core.Path.{refl}
use Rattle.heard.proofs.state_after.Goals as goal

pub returns : goal.returns
returns c = refl

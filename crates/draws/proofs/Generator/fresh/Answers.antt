-- `draws::Generator::fresh` meets its contract.
use Rattle.std.proofs.Common.{refl}
use Rattle.draws.specs.Draw.{fresh_generator}
use Rattle.draws.proofs.Generator.fresh.Goals as goal

pub returns : goal.returns
unfolding fresh_generator
returns c = refl

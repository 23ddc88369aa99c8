-- `pairs::take_pair` meets its contract: two bytes make sixteen bits.
use mathlib.Core.Path.{◌∙◌}
use native.Mathlib.Omega.{arith}
use Rattle.laws.specs.Bytes.{pair_at}
use Rattle.pairs.proofs.take_pair.Goals as goal

pub returns : goal.returns
unfolding pair_at
returns c = c.from_le_bytes.ensures ∙ omega arith

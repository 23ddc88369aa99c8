use mathlib.Core.Path.{◌∙◌}
use Rattle.blocks.proofs.Blocks.{pair_of}
use Rattle.blocks.proofs.pair.Goals as goal

pub returns : goal.returns
returns c = c.from.ensures ∙ c.from_le_bytes.ensures ∙ pair_of _ _

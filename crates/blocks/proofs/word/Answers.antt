use mathlib.Core.Path.{◌∙◌}
use Rattle.blocks.proofs.Blocks.{word_of}
use Rattle.blocks.proofs.word.Goals as goal

pub returns : goal.returns
returns c = c.from_le_bytes.ensures ∙ word_of _ _

-- `codebook::copy_from` meets its contract: the sixty elements from the first on are the code.
use Rattle.std.proofs.Common.{◌∙◌, arith}
use Rattle.codebook.proofs.Codes.{cut}
use Rattle.codebook.proofs.copy_from.Goals as goal

pub returns : goal.returns
returns c = c.copy_from_slice.ensures.after ∙ cut c.args.index c.requires.elements_value (omega arith)

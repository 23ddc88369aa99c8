-- `pairs::put_pair` meets its contract: the lower byte first.
use mathlib.Core.Path.{◌∙◌}
use native.Mathlib.Omega.{arith}
use Rattle.pairs.proofs.Pairs.{index_laid}
use Rattle.pairs.proofs.put_pair.Goals as goal

pub returns : goal.returns
returns c =
    index_laid c.args.out.now c.args.at (c.copy_from_slice.ensures.after ∙ c.to_le_bytes.ensures) (omega arith) (omega arith) c.requires

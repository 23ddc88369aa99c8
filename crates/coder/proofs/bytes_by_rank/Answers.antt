-- `coder::bytes_by_rank` answers the list of printed bytes.
use mathlib.Core.Path.{refl}
use Rattle.delays.specs.Table.{bytes}
use Rattle.coder.proofs.bytes_by_rank.Goals as goal

pub returns : goal.returns
unfolding bytes
returns c = refl

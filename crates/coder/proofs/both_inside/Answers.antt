-- `coder::both_inside` meets its contract: the entries of the list of printed bytes.
use Rattle.delays.proofs.Pairs.{four_codes}
use Rattle.coder.proofs.both_inside.Goals as goal

pub returns : goal.returns
returns c =
    simp (c.from.ensures, c.from-2.ensures, c.from-3.ensures, c.from-4.ensures, c.from-5.ensures, c.from-6.ensures)
    (four_codes c.bytes_by_rank-bytes.ensures _ _ _ _)

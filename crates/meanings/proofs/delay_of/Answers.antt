-- `meanings::delay_of` meets its contract: the delay is that of the rank that the code means.
use Rattle.delays.proofs.Pairs.{first_meant}
use Rattle.meanings.proofs.delay_of.Goals as goal

pub returns : goal.returns
returns c = first_meant c.requires.ranks_value _ c.requires.code_bound (rw (← c.from.ensures) c.twelfths.ensures)

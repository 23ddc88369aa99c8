-- `meanings::delay_after` meets its contract: the delay is that of the rank that the code means after the one before.
use Rattle.std.proofs.Common.{◌+◌, ◌<◌, arith}
use Rattle.delays.proofs.Pairs.{next_below, next_meant}
use Rattle.meanings.proofs.delay_after.Goals as goal

pub overflow_cast-next : goal.overflow_cast-next
overflow_cast-next c =
    let next : c.base.result + c.args.step < 256 = next_below _ _ c.requires.code_bound.1 c.base.ensures in omega arith

pub returns : goal.returns
returns c =
    let low = rw (c.from-2.ensures, c.from.ensures) at c.base.ensures in
    next_meant c.requires.ranks_value _ c.requires.code_bound.0 _ low c.twelfths.ensures

-- `meanings::delays_meant` meets its contract: the table has the rank of each byte, and each delay is that of its rank.
use Rattle.delays.proofs.Table.{ranks, inverse}
use Rattle.meanings.proofs.delays_meant.Goals as goal

pub delay_of-requires-clause-ranks_value : goal.delay_of-requires-clause-ranks_value
unfolding ranks
delay_of-requires-clause-ranks_value c = inverse

pub delay_after-requires-clause-ranks_value : goal.delay_after-requires-clause-ranks_value
unfolding ranks
delay_after-requires-clause-ranks_value c = inverse

pub delay_of-requires-2-clause-ranks_value : goal.delay_of-requires-2-clause-ranks_value
unfolding ranks
delay_of-requires-2-clause-ranks_value c = inverse

pub delay_after-requires-2-clause-ranks_value : goal.delay_after-requires-2-clause-ranks_value
unfolding ranks
delay_after-requires-2-clause-ranks_value c = inverse

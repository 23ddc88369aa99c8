-- `pairs::take` meets its contract: by the length of the bytes.
use native.Mathlib.Omega.{arith}
use Rattle.pairs.proofs.Whole.{not_taken, all_taken}
use Rattle.pairs.proofs.take.Goals as goal

pub returns-then-bytes-ne56 : goal.returns-then-bytes-ne56
returns-then-bytes-ne56 c = not_taken _ (omega arith)

pub returns : goal.returns
returns c = all_taken _ (omega arith) c.take_all.ensures

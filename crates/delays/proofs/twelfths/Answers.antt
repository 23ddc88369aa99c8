-- `delays::twelfths` meets its contract, a stretch at a time.
use native.Mathlib.Omega.{arith}
use Rattle.delays.proofs.Table.{in_first_thirds, in_quarters, in_second_thirds, in_wholes}
use Rattle.delays.proofs.twelfths.Goals as goal

pub returns-then-wide-lt18 : goal.returns-then-wide-lt18
returns-then-wide-lt18 c = in_first_thirds _ (omega arith)

pub returns-then-wide-lt50 : goal.returns-then-wide-lt50
returns-then-wide-lt50 c = in_quarters _ (omega arith) (omega arith)

pub returns-then-wide-lt188 : goal.returns-then-wide-lt188
returns-then-wide-lt188 c = in_second_thirds _ (omega arith) (omega arith)

pub returns : goal.returns
returns c = in_wholes _ (omega arith) (omega arith)

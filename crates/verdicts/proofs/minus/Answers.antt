-- `verdicts::minus` meets its contract.
use mathlib.Core.Path.{◌∙◌}
use native.Mathlib.Omega.{arith}
use Rattle.verdicts.proofs.Negated.{minus_fits, minus_is, minus_held}
use Rattle.verdicts.proofs.minus.Goals as goal

pub overflow_sub-result : goal.overflow_sub-result
overflow_sub-result c = minus_fits c.min.result (omega arith)

pub returns : goal.returns
returns c = minus_is c.min.result (omega arith) ∙ minus_held _ (omega arith)

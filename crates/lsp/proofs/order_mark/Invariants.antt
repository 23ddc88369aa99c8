-- `lsp::order_mark` meets its contract. The loop's invariant: no pair passed falls.
use Rattle.std.proofs.Common.{◌-◌}
use Rattle.laws.proofs.Lowest.{NoneUpTo}
use Rattle.lsp.specs.Order.{falls}
use Rattle.lsp.proofs.order_mark.Given as goal

abbrev pub invariant-loop-j : goal.invariant-loop-j
invariant-loop-j l = NoneUpTo (falls l.hz) (l.j - 1)

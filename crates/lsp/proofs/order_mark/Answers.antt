use Rattle.std.proofs.Common.{arith}
use Rattle.lsp.proofs.Falls.{found, nowhere}
use Rattle.lsp.proofs.order_mark.Goals as goal

pub returns-then-hz-j : goal.returns-then-hz-j
returns-then-hz-j c = found _ c.loop-j.invariant (omega arith) (omega arith) c.if-hz-j.true

pub returns : goal.returns
returns c = nowhere c.args.hz c.loop-j.invariant (omega arith)

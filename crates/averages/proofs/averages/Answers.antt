use Rattle.std.proofs.Common.{arith}
use Rattle.lsp.proofs.Weights.{all_averaged}
use Rattle.averages.proofs.averages.Goals as goal

pub returns : goal.returns
returns c = all_averaged c.args.previous c.args.present c.loop-n.invariant (omega arith)

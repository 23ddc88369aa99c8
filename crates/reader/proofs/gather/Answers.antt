use mathlib.Core.Path.{◌∙◌}
use native.Mathlib.Omega.{arith}
use Rattle.frame.specs.Frame.{bit_at}
use Rattle.frame.proofs.Gathered.{bit_at_small, indices_none, indices_all}
use Rattle.reader.proofs.gather.Goals as goal

pub loop-n-init : goal.loop-n-init
loop-n-init c = indices_none (bit_at _) (bit_at_small _)

pub returns : goal.returns
returns c = indices_all _ _ c.loop-n-test.false (omega arith) c.loop-n.invariant

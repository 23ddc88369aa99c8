use native.Mathlib.Omega.{arith}
use Rattle.kept.proofs.Returns.{reach_none, reach_some}
use Rattle.kept.proofs.reach.Goals as goal

pub returns-then-left-eq0 : goal.returns-then-left-eq0
returns-then-left-eq0 c = reach_none _ c.args.left (omega (arith, c.if-left-eq0.true))

pub returns : goal.returns
returns c = reach_some _ _ c.if-left-eq0.false

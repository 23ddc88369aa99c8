use native.Mathlib.Omega.{arith}
use Rattle.kept.proofs.Returns.{fewer_one, fewer_none}
use Rattle.kept.proofs.fewer.Goals as goal

pub returns-then-reach-gt65526 : goal.returns-then-reach-gt65526
returns-then-reach-gt65526 c = fewer_one c.args.reach _ (omega (arith, c.if-reach-gt65526.true))

pub returns-else-reach-gt65526 : goal.returns-else-reach-gt65526
returns-else-reach-gt65526 c = fewer_none c.args.reach _ (omega (arith, c.if-reach-gt65526.false))

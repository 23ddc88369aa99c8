use mathlib.Core.Path.{sym, ap}
use Rattle.passes.specs.Counted.{breaks_at}
use Rattle.steps.proofs.breaks_at.Goals as goal

pub returns-in-None : goal.returns-in-None
returns-in-None c = ap breaks_at (sym c.in-None.is)

pub returns-in-Some : goal.returns-in-Some
returns-in-Some c = ap breaks_at (sym c.in-Some.is)

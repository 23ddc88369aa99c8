use mathlib.Core.Path.{ap}
use Rattle.std.specs.declared.ops.ControlFlow.TheVariants.{Break}
use Rattle.walk.proofs.meet_end.Goals as goal

pub ending_at-requires : goal.ending_at-requires
ending_at-requires c = c.requires

pub returns : goal.returns
returns c = ap Break c.ending_at.ensures

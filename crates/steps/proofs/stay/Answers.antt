use mathlib.Core.Path.{◌∙◌}
use Rattle.frame.proofs.Answered.{nothing_read}
use Rattle.passes.proofs.Passes.{stayed}
use Rattle.steps.proofs.stay.Goals as goal

pub returns : goal.returns
returns c =
    stayed c.args.pass (c.nothing-reading.ensures ∙ nothing_read) c.nothing-values.ensures

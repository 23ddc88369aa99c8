use Rattle.passes.proofs.Passes.{next_by}
use mathlib.Core.Path.{◌∙◌, sym}
use Rattle.steps.proofs.next.Goals as goal

pub hear-requires : goal.hear-requires
hear-requires c = sym c.ahead.ensures ∙ c.in-Some.is

pub returns-in-None : goal.returns-in-None
returns-in-None c =
    c.stay.ensures ∙ next_by _ _ c.ahead.ensures c.in-None.is

pub returns-in-Some : goal.returns-in-Some
returns-in-Some c =
    c.hear.ensures ∙ next_by _ _ c.ahead.ensures c.in-Some.is

-- `ledger::oatlantern_tally_enter` meets its contract.
use mathlib.Core.Path.{ap, ◌∙◌}
use borrow.Author.Rules.{sfits_of}
use mir.Facts.{to_z-of_z}
use mir.Syntax.{w32}
use Rattle.ledger.specs.Results.{enter_result}
use Rattle.ledger.proofs.oatlantern_tally_enter.Goals as goal

pub returns : goal.returns
returns c =
    record { value = to_z-of_z {w = w32} (sfits_of c.result.type_inv) ∙ c.result.ensures ∙ ap enter_result c.enter.ensures.value; book_after = c.enter.ensures.book_after }

-- `ledger::result` meets its contract: each answer has its number.
use borrow.Author.Rules.{sfits_of}
use mir.Facts.{to_z-of_z}
use mir.Syntax.{w32}
use mathlib.Core.Path.{◌∙◌}
use Rattle.ledger.proofs.Told.{refusal_told}
use Rattle.ledger.proofs.result.Goals as goal

pub returns-in-Err : goal.returns-in-Err
returns-in-Err c =
    refusal_told c.in-Err.is c.refusal_number.ensures (to_z-of_z {w = w32} (sfits_of c.minus.type_inv) ∙ c.minus.ensures)

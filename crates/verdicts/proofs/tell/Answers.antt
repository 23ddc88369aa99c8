-- `verdicts::tell` meets its contract: a refused recording, and a sound one.
use mathlib.Core.Path.{◌∙◌}
use borrow.Author.Rules.{sfits_of}
use mir.Facts.{to_z-of_z}
use mir.Syntax.{w32}
use Rattle.verdicts.proofs.Told.{was_refused, was_sound}
use Rattle.laws.proofs.Clauses.{clauses}
use Rattle.verdicts.proofs.tell.Goals as goal

pub returns-in-Err : goal.returns-in-Err
returns-in-Err c = clauses (λ value told_after. record { value = value; told_after = told_after }) (was_refused _ c.walk_through-walked.ensures _ c.in-Err.is c.refusal_number.ensures
    (to_z-of_z {w = w32} (sfits_of c.minus.type_inv) ∙ c.minus.ensures) c.told_of.ensures)

pub returns-in-Ok : goal.returns-in-Ok
returns-in-Ok c = clauses (λ value told_after. record { value = value; told_after = told_after }) (was_sound _ c.walk_through-walked.ensures c.in-Ok.is)

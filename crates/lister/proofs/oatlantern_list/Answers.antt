-- `lister::oatlantern_list` meets its contract: a buffer of the wrong length, and a text.
use mathlib.Core.Path.{◌∙◌}
use borrow.Author.Rules.{sfits_of}
use mir.Facts.{to_z-of_z}
use mir.Syntax.{w32}
use Rattle.lister.proofs.Told.{no_room, was_listed}
use Rattle.laws.proofs.Clauses.{clauses}
use Rattle.lister.proofs.oatlantern_list.Goals as goal

pub returns-in-Err-WrongLength : goal.returns-in-Err-WrongLength
returns-in-Err-WrongLength c =
    let t = no_room _ _ _ c.list.ensures.value c.in-Err-WrongLength.is in
    clauses (λ value. clauses (λ text_after. clauses (λ ending_after told_after. record { value = value; text_after = text_after; ending_after = ending_after; told_after = told_after }))) ((t.0, (c.list.ensures.out_after, t.1)))

pub returns-in-Ok : goal.returns-in-Ok
returns-in-Ok c =
    let t =
    was_listed _ _ _ c.list.ensures.value c.in-Ok.is (to_z-of_z {w = w32} (sfits_of c.tell.type_inv) ∙ c.tell.ensures.value)
    c.tell.ensures.told_after in
    clauses (λ value. clauses (λ text_after. clauses (λ ending_after told_after. record { value = value; text_after = text_after; ending_after = ending_after; told_after = told_after }))) ((t.0, (c.list.ensures.out_after, t.1)))

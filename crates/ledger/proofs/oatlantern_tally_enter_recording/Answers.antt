-- `ledger::oatlantern_tally_enter_recording` meets its contract: a recording that is entered, one whose entry is refused,
-- and one that is refused by itself.
use mathlib.Core.Path.{ap, ◌∙◌}
use borrow.Author.Rules.{sfits_of}
use mir.Facts.{to_z-of_z}
use mir.Syntax.{w32}
use Rattle.std.specs.Prelude.{Err}
use Rattle.ledger.proofs.Told.{was_entered, was_refused}
use Rattle.ledger.proofs.oatlantern_tally_enter_recording.Goals as goal

pub returns-in-Ok : goal.returns-in-Ok
returns-in-Ok c = record {
  value = to_z-of_z {w = w32} (sfits_of c.result.type_inv) ∙ c.result.ensures
      ∙ was_entered _ _ _ c.enter_recording-entering.ensures.value c.in-Ok.is;
  book_after = c.enter_recording-entering.ensures.book_after;
  told_after = c.tell-verdict.ensures.told_after;
}

pub returns-in-Err-NotEntered : goal.returns-in-Err-NotEntered
returns-in-Err-NotEntered c = record {
  value = to_z-of_z {w = w32} (sfits_of c.result-in-Err-NotEntered.type_inv) ∙ c.result-in-Err-NotEntered.ensures
      ∙ was_entered _ _ _ c.enter_recording-entering.ensures.value
      (c.in-Err-NotEntered.is ∙ ap Err (rw c.in-Err-NotEntered.is at c.in-Err-NotEntered.field-0-is));
  book_after = c.enter_recording-entering.ensures.book_after;
  told_after = c.tell-verdict.ensures.told_after;
}

pub returns-in-Err-Unsound : goal.returns-in-Err-Unsound
returns-in-Err-Unsound c = record {
  value = to_z-of_z {w = w32} (sfits_of c.tell-verdict.type_inv) ∙ c.tell-verdict.ensures.value
      ∙ was_refused _ _ _ _ c.enter_recording-entering.ensures.value
      (c.in-Err-Unsound.is ∙ ap Err (rw c.in-Err-Unsound.is at c.in-Err-Unsound.field-0-is));
  book_after = c.enter_recording-entering.ensures.book_after;
  told_after = c.tell-verdict.ensures.told_after;
}

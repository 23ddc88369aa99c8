-- `entering::enter_recording` meets its contract: by how the walk ends, and by what entering comes to.
use Rattle.laws.proofs.Clauses.{clauses}
use Rattle.std.proofs.lemmas.Result.{err_from_is_err_and}
use Rattle.tally.proofs.Rows.{recording_refused, recording_sound}
use Rattle.entering.proofs.enter_recording.Goals as goal

pub returns-in_err-walked : goal.returns-in_err-walked
returns-in_err-walked c =
    let p = err_from_is_err_and c.from_residual.result c.from_residual.ensures.1 in
    rw (p.1, p.2) (clauses (λ value book_after. record { value = value; book_after = book_after })
    (recording_refused _ _ _ c.walk_through-walked.ensures c.in_err-walked.was))

pub returns-in_err-enter : goal.returns-in_err-enter
returns-in_err-enter c =
    let p = err_from_is_err_and c.from_residual-in_err-enter.result c.from_residual-in_err-enter.ensures.1 in
    rw (p.1, p.2) (clauses (λ value book_after. record { value = value; book_after = book_after })
    (recording_sound _ _ _ c.walk_through-walked.ensures c.in_ok-walked.was c.entry_of-entry.ensures
    c.in_err-enter.ensures.value c.in_err-enter.ensures.book_after))

pub returns : goal.returns
returns c =
    clauses (λ value book_after. record { value = value; book_after = book_after })
    (recording_sound _ _ _ c.walk_through-walked.ensures c.in_ok-walked.was c.entry_of-entry.ensures
    c.in_ok-enter.ensures.value c.in_ok-enter.ensures.book_after)

-- `entering::enter` meets its contract: by the row of the key it is one of the three ways of `Rows`.
use native.Mathlib.Omega.{arith}
use Rattle.tally.proofs.Rows.{told_fits, row_held, row_none, row_after, held_same, held_other, held_none}
use Rattle.laws.proofs.Clauses.{clauses}
use Rattle.entering.proofs.enter.Goals as goal

pub bounds-book-held_at : goal.bounds-book-held_at
bounds-book-held_at c = omega (arith, told_fits _ c.entries-held.ensures)

pub returns-then-book-held_at : goal.returns-then-book-held_at
returns-then-book-held_at c = clauses (λ value book_after. record { value = value; book_after = book_after }) (held_same _ c.args.entry
    (row_held _ _ _ c.row_of-row.ensures c.entries-held.ensures (omega arith)) (omega arith))

pub returns-then-row-held : goal.returns-then-row-held
returns-then-row-held c = clauses (λ value book_after. record { value = value; book_after = book_after }) (held_other _ c.args.entry
    (row_held _ _ _ c.row_of-row.ensures c.entries-held.ensures (omega arith)) (λ q. omega arith))

pub append-requires : goal.append-requires
append-requires c =
    row_after _ _ _ c.row_of-row.ensures c.entries-held.ensures (omega arith)

pub returns : goal.returns
returns c = clauses (λ value book_after. record { value = value; book_after = book_after }) (held_none _ c.args.entry
    (row_none _ _ _ c.row_of-row.ensures c.entries-held.ensures (omega arith)) c.append.ensures.value
    c.append.ensures.book_after)

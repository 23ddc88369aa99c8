use native.Mathlib.Omega.{arith}
use Rattle.tally.proofs.Rows.{seeking, sought_found, sought_number, sought_unit, sought_none}
use Rattle.asking.proofs.row_of.Goals as goal
use Rattle.asking.proofs.row_of.Goals.{else-book-row-via-then-book-row+else-book-row-2, else-book-row-via-else-book-row}

pub loop-row-init : goal.loop-row-init
loop-row-init c = seeking _ _ _ _ c.entries-end.ensures

pub returns-then-book-row-2 : goal.returns-then-book-row-2
returns-then-book-row-2 c = sought_found c.loop-row.invariant (omega arith) (omega arith) (omega arith)

pub loop-row-preserved : goal.loop-row-preserved
loop-row-preserved c =
    let a = c.loop-row.invariant in
    elim c.else-book-row.branch [
      | else-book-row-via-then-book-row+else-book-row-2 w ↦ sought_unit a (omega arith) (omega arith) (λ q. omega arith)
      | else-book-row-via-else-book-row w ↦ sought_number a (omega arith) (λ q. omega arith)
    ]

pub returns : goal.returns
returns c = sought_none c.loop-row.invariant (omega arith)

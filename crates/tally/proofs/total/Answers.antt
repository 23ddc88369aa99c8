use Prim.Native.Nat.{◌+◌}
use native.Mathlib.Omega.{arith}
use Rattle.tally.proofs.Rows.{summing, summed_own, summed_other, summed_all}
use Rattle.tally.proofs.total.Goals as goal
use Rattle.tally.proofs.total.Goals.{then-book-row, else-book-row}

pub loop-row-init : goal.loop-row-init
loop-row-init c = summing _ _ _ c.entries-last.ensures

pub loop-row-preserved : goal.loop-row-preserved
loop-row-preserved c =
    let a = c.loop-row.invariant in
    elim c.if-book-row.branch [
      | then-book-row w ↦ summed_own a (omega arith) (omega arith) (omega (arith, c.fits-book (8193 + c.loop-row.row))) (omega arith)
      | else-book-row w ↦ summed_other a (omega arith) (λ q. omega arith) w.sum-is
    ]

pub returns : goal.returns
returns c = summed_all c.loop-row.invariant (omega arith)

-- `parity::correction_of` meets its contract: 0 and a number over 15 are clean, any other goes by its entry.
use Prim.Native.Nat.{◌-◌, ◌/◌, ◌<◌}
use native.Mathlib.Omega.{arith}
use Rattle.frame.proofs.Corrections.{clean_at_zero, clean_beyond, parity_case, data_case}
use Rattle.parity.proofs.correction_of.Goals as goal

pub returns-then-number-eq0 : goal.returns-then-number-eq0
returns-then-number-eq0 c = clean_at_zero _ c.if-number-eq0.true

pub returns-then-number-gt15 : goal.returns-then-number-gt15
returns-then-number-gt15 c = clean_beyond _ c.if-number-eq0.false (omega arith)

pub returns-then-field-eq0 : goal.returns-then-field-eq0
returns-then-field-eq0 c =
    parity_case _ c.if-number-eq0.false _ c.guarded-guarded.ensures (omega arith) (omega arith)

pub returns : goal.returns
returns c =
    data_case _ c.if-number-eq0.false _ c.guarded-guarded.ensures (omega arith) (λ w. omega arith)

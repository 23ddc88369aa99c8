use native.Mathlib.Omega.{arith}
use Rattle.laws.proofs.Lowest.{none_more}
use Rattle.frame.proofs.Corrections.{no_data_number, other_field, other_bit, this_bit, data_found, data_none}
use Rattle.parity.proofs.data_number.Goals as goal
use Rattle.parity.proofs.data_number.Goals.{else-entry-f-via-then-entry-f+else-entry-i, else-entry-f-via-else-entry-f}

pub returns-then-f-eq0 : goal.returns-then-f-eq0
returns-then-f-eq0 c = no_data_number _ _ c.if-f-eq0.true

pub returns-then-entry-i : goal.returns-then-entry-i
returns-then-entry-i c =
    data_found _ _ c.if-f-eq0.false c.loop-k.invariant (omega arith)
    (this_bit c.args.f c.args.i _ c.guarded-guarded.ensures c.loop-k.k (omega arith)
    c.if-entry-f.true c.if-entry-i.true)

pub loop-k-preserved : goal.loop-k-preserved
loop-k-preserved c = elim c.else-entry-f.branch [
  | else-entry-f-via-then-entry-f+else-entry-i w ↦
      none_more _ c.loop-k.invariant
      (other_bit c.args.f c.args.i _ c.guarded-guarded.ensures c.loop-k.k (omega arith) w.if-entry-f.true w.if-entry-i.false)
  | else-entry-f-via-else-entry-f w ↦
      none_more _ c.loop-k.invariant
      (other_field c.args.f c.args.i _ c.guarded-guarded.ensures c.loop-k.k (omega arith) w.if-entry-f.false)
]

pub returns : goal.returns
returns c = data_none _ _ c.if-f-eq0.false c.loop-k.invariant (omega arith)

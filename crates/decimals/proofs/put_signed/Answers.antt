-- `decimals::put_signed` meets its contract: a minus and the size, or the size alone.
use native.Mathlib.Omega.{arith}
use mir.Facts.{to_z-of_z}
use Rattle.laws.proofs.Clauses.{clauses}
use Rattle.text.proofs.Signed.{put_below, put_from}
use Rattle.decimals.proofs.put_signed.Goals as goal

pub returns-then-x-lt0 : goal.returns-then-x-lt0
returns-then-x-lt0 c =
    clauses (λ value out_after. record { value = value; out_after = out_after })
    (put_below _ (to_z-of_z c.ranges.x) (omega arith) c.if-x-lt0.true _ _
    (c.put_byte-next.ensures.value, c.put_byte-next.ensures.out_after) (c.put_number.ensures.value, c.put_number.ensures.out_after))

pub returns : goal.returns
returns c =
    clauses (λ value out_after. record { value = value; out_after = out_after })
    (put_from _ (to_z-of_z c.ranges.x) (omega arith) c.if-x-lt0.false _ _
    (c.put_number-2.ensures.value, c.put_number-2.ensures.out_after))

use mathlib.Core.Path.{ap₂}
use mathlib.Core.List.{List, ◌∷◌, ◌++◌}
use Prim.Native.Nat.{ℕ}
use native.Mathlib.Omega.{arith}
use Rattle.text.proofs.Laid.{put_length, put_as}
use Rattle.laws.proofs.Clauses.{clauses}
use Rattle.ends.proofs.Written.{word_written}
use Rattle.ends.proofs.put_head.Goals as goal

pub shape_of-out : goal.shape_of-out
shape_of-out c = put_length _ _ _ (c.put_word.ensures.value, c.put_word.ensures.out_after)

pub returns : goal.returns
returns c =
    clauses (λ value out_after. record { value = value; out_after = out_after }) (put_as _ _ _ _ (
    ap₂ (λ (x y : List ℕ). 8 ∷ 0 ∷ 0 ∷ 0 ∷ 1 ∷ 0 ∷ (x ++ y))
    (word_written c.args.heading.unit (omega arith) c.to_le_bytes.ensures)
    (word_written c.args.heading.number (omega arith) c.to_le_bytes-2.ensures)
    ) (c.put_word.ensures.value, c.put_word.ensures.out_after))

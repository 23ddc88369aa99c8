use mathlib.Core.Path.{ap}
use mathlib.Core.List.{List, ◌∷◌}
use Prim.Native.Nat.{ℕ}
use native.Mathlib.Omega.{arith}
use Rattle.text.proofs.Laid.{put_length, put_as}
use Rattle.laws.proofs.Clauses.{clauses}
use Rattle.ends.proofs.Written.{word_written}
use Rattle.ends.proofs.put_end.Goals as goal

pub shape_of-out : goal.shape_of-out
shape_of-out c = put_length _ _ _ (c.put_word.ensures.value, c.put_word.ensures.out_after)

pub returns : goal.returns
returns c =
    clauses (λ value out_after. record { value = value; out_after = out_after }) (put_as _ _ _ _ (
    ap (λ (x : List ℕ). 4 ∷ 0 ∷ 0 ∷ 0 ∷ 3 ∷ 0 ∷ x)
    (word_written c.args.frames (omega arith) c.to_le_bytes.ensures)
    ) (c.put_word.ensures.value, c.put_word.ensures.out_after))

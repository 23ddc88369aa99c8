use mathlib.Core.Path.{ap}
use mathlib.Core.List.{List, [], ◌∷◌, ◌++◌}
use Prim.Native.Nat.{ℕ}
use native.Mathlib.Omega.{arith}
use Rattle.text.proofs.Laid.{put_length, put_as}
use Rattle.ends.proofs.Written.{word_written}
use Rattle.restorer.proofs.Puts.{voice_put}
use Rattle.laws.proofs.Clauses.{clauses}
use Rattle.restorer.proofs.put_voice.Goals as goal

pub overflow_cast-size : goal.overflow_cast-size
overflow_cast-size c = omega (arith, c.requires.size_le_longest)

pub returns : goal.returns
returns c = clauses (λ value out_after. record { value = value; out_after = out_after }) (voice_put _ _ c.args.size _ c.requires.size_value
    (put_as _ _ _ _ (ap (λ (x : List ℕ). x ++ (2 ∷ 0 ∷ []))
    (word_written c.args.size (omega (arith, c.requires.size_le_longest)) c.to_le_bytes.ensures))
    (c.put_word-header.ensures.value, c.put_word-header.ensures.out_after))
    (c.put_word.ensures.value, c.put_word.ensures.out_after))

pub shape_of-out : goal.shape_of-out
shape_of-out c = put_length _ _ _ ((returns c).value, (returns c).out_after)

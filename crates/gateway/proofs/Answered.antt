-- The returns of the frame reader and writer for C: what was computed is what the definitions say, the result and the buffer.
-- Assumes nothing.
use mathlib.Core.Path.{◌≡◌, ◌∙◌, refl, ap, ap₂}
use mathlib.Core.Bool.{Bool, true, false}
use mathlib.Core.List.{List}
use Prim.Native.Nat.{ℕ, ◌+◌, ◌*◌, ◌^◌, ◌<◌}
use native.Mathlib.Omega.{arith}
use native.Mathlib.Decide.{ℕ_discrete}
use borrow.Author.Tests.{eq-eqb, ne_eqb}
use lib.IntN.{ℤ, pos}
use lib.ListN.{length}
use mir.Syntax.{w32}
use mir.Val.{to_z}
use mir.Facts.{to_z_pos}
use Rattle.std.specs.Prelude.{None, Some}
use Rattle.frame.specs.Answers.{read_of, correction_number, Written, written_of, refusal_of, frame_left}
use Rattle.frame.specs.declared.Reading.{Reading}
use Rattle.frame.proofs.Answered as frames
use Rattle.pairs.specs.Pairs.{taken_of}
use Rattle.record.specs.declared.Record.{Record}
use Rattle.pairs.proofs.Whole.{Puts, was_put, was_not, was_taken, was_wrong}
use Rattle.verdicts.specs.Verdicts.{refused}
use Rattle.gateway.specs.Results.{kind_of, result_of, read_result, record_left, write_result, frame_left_by}
use Rattle.gateway.proofs.Ranges.{reading_small}

-- the answer of the reader: the result z and what the record's buffer holds
abbrev pub Reads : List ℕ → List ℕ → ℤ → List ℕ → Type 0
Reads s o z next = (z ≡ read_result s (length o)) × (next ≡ record_left s o)

module _ (s o : List ℕ) where
  -- the buffer for the record is not 56 bytes: -1, and it stays
  pub wrong_record : (length o ≡ 56 → ⊥) → Reads s o (refused 1) o
  unfolding read_result record_left
  wrong_record e = rw (ne_eqb (length o) 56 e) (refl, refl)

  -- the frame is not eighteen bytes: -1, and the buffer stays, whatever its length
  pub wrong_frame : None ≡ read_of s → Reads s o (refused 1) o
  unfolding read_result record_left
  wrong_frame is = go (ℕ_discrete (length o) 56)
    where
      go : Dec (length o ≡ 56) → Reads s o (refused 1) o
      go (yes long) = rw (eq-eqb (length o) 56 long, ← is) (refl, refl)
      go (no e) = wrong_record e

  module _ (a : Reading) (is : Some a ≡ read_of s) where
    -- it was read, but the buffer has no 56 bytes
    pub not_put : {b : Bool} {next : List ℕ} → Puts a.indices o b next → b ≡ false → Reads s o (refused 1) next
    not_put p f = let w = was_not a.indices o p f in
        ((wrong_record w.0).0, w.1 ∙ (wrong_record w.0).1)

    -- the mark, the correction number n and what the kind adds, k, are told of what was read, and its record put
    pub was_read : {n k : ℕ} {b : Bool} {next : List ℕ} → n ≡ correction_number a
        → k ≡ kind_of a.correction → Puts a.indices o b next → b ≡ true
        → Reads s o (to_z w32 (16 * a.mark + n + k)) next
    unfolding read_result record_left
    was_read {n} {k} numbered added p t =
        let w = was_put a.indices o p t in
        rw (eq-eqb (length o) 56 w.0, ← is)
        (to_z_pos w32 small ∙ ap pos whole, w.1)
      where
        whole : 16 * a.mark + n + k ≡ result_of a
        whole = ap₂ (λ (x y : ℕ). 16 * a.mark + x + y) numbered added

        small : 16 * a.mark + n + k < 2 ^ 31
        small = rw (whole, (frames.was_read s is).1) (let h = reading_small s in omega (arith, h))

    -- which is small
    pub read_small : {n k : ℕ} → n ≡ correction_number a → k ≡ kind_of a.correction → 16 * a.mark + n + k < 672
    read_small numbered added = rw (numbered, added, (frames.was_read s is).1) (reading_small s)

-- the answer of the writer
abbrev pub Writes : List ℕ → List ℕ → ℤ → List ℕ → Type 0
Writes s o z next = (z ≡ write_result s (length o)) × (next ≡ frame_left_by s o)

module _ (s o : List ℕ) where
  -- the record is not 56 bytes: -1, and the buffer stays
  pub wrong_bytes : None ≡ taken_of s → Writes s o (refused 1) o
  unfolding write_result frame_left_by
  wrong_bytes is = rw (ne_eqb (length s) 56 (was_wrong s is)) (refl, refl)

  -- a record was taken out of the bytes, and its frame asked for
  pub was_asked : {r : Record} {a : Written} {z : ℤ} {next : List ℕ} → Some r ≡ taken_of s → a ≡ written_of r (length o)
      → next ≡ frame_left r o → z ≡ refused (refusal_of a) → Writes s o z next
  unfolding write_result frame_left_by
  was_asked is answered left told =
      let w = was_taken s is in
      rw (eq-eqb (length s) 56 w.0, ← w.1) (told ∙ ap (λ (x : Written). refused (refusal_of x)) answered, left)

-- The C boundary, shown by the laws of its bytes, of its results and of frames.
-- Assumes nothing.
use mathlib.Core.Path.{◌≡◌, ◌∙◌, sym, refl, ap}
use mathlib.Core.List.{List}
use Rattle.std.specs.Prelude.{Some, Ok, Err}
use Prim.Native.Nat.{ℕ, ◌+◌}
use native.Mathlib.Omega.{arith}
use borrow.Author.Tests.{eq-eqb}
use lib.IntN.{pos, nat_abs}
use lib.ListN.{length}
use Rattle.laws.proofs.Tabulate.{length_tabulate}
use Rattle.frame.specs.Frame.{frame_of}
use Rattle.frame.specs.Answers.{reading_of, read_of, Written, written_of, frame_left, left_by, refusal_of}
use Rattle.frame.specs.declared.Correction.TheVariants as Correction
use Rattle.frame.specs.declared.Reading.{Reading}
use Rattle.frame.specs.declared.Refusal.TheVariants.{WrongLength, TooLarge, Falling, Expansion}
use Rattle.frame.proofs.Answered.{some_read, was_read}
use Rattle.pairs.specs.Pairs.{bytes_of, pair_in, record_in}
use Rattle.verdicts.specs.Verdicts.{refused}
use Rattle.gateway.specs.Results.{result_of, read_result, record_left, write_result, frame_left_by}
use Rattle.pairs.proofs.Laws.{record_of_bytes, bytes_of_record}
use Rattle.gateway.proofs.Ranges.{reading_kind, reading_mark, reading_number, reading_rest}
use Rattle.promises.specs.Frames.{Shaped, ReadsBack}
use Rattle.promises.specs.Boundary.{PairsHoldRecord, ReadTells, WriteTells, BoundaryReadsBack}
use Rattle.promises.proofs.Frames.{reads_back}

pub pairs_hold_record : PairsHoldRecord
unfolding PairsHoldRecord
pairs_hold_record = (
  λ r shaped. record_of_bytes r shaped.parameters shaped.indices,
  λ s full. bytes_of_record s full.long full.bytes,
)

-- where both buffers have their lengths, a reading is told and put
module _ (s o : List ℕ) (read : read_of s ≡ Some (reading_of s)) (long : length o ≡ 56) where
  -- the result has the mark, the number and what the kind adds
  pub read_result_is : read_result s (length o) ≡ pos (result_of (reading_of s))
  unfolding read_result
  read_result_is = rw (eq-eqb (length o) 56 long, read)

  -- the buffer holds the record
  pub record_left_is : record_left s o ≡ bytes_of (reading_of s).indices
  unfolding record_left
  record_left_is = rw (eq-eqb (length o) 56 long, read)

pub read_tells : ReadTells
unfolding ReadTells
read_tells s o eighteen long = record {
  told = result_of (reading_of s);
  result = read_result_is s o read long;
  kind = reading_kind s;
  mark = reading_mark s;
  number = reading_number s;
  as_before = reading_rest s;
  left = record_left_is s o read long;
}
  where
    read : read_of s ≡ Some (reading_of s)
    read = sym (some_read s eighteen refl)

-- the writer's result and buffer, where the record has 56 bytes
module _ (s o : List ℕ) (long : length s ≡ 56) where
  -- the result is minus the number of the writer's answer
  pub result_is : write_result s (length o) ≡ refused (refusal_of (written_of (record_in s) (length o)))
  unfolding write_result
  result_is = rw (eq-eqb (length s) 56 long)

  -- the buffer holds what the writer leaves of the record in the bytes
  left_is : frame_left_by s o ≡ frame_left (record_in s) o
  unfolding frame_left_by
  left_is = rw (eq-eqb (length s) 56 long)

  -- a result of 0 is the frame's
  zero_is_frame : write_result s (length o) ≡ pos 0 → written_of (record_in s) (length o) ≡ Ok tt
  zero_is_frame e = go (written_of (record_in s) (length o)) (sym result_is ∙ e)
    where
      go : (a : Written) → refused (refusal_of a) ≡ pos 0 → a ≡ Ok tt
      go (Ok frame) z = refl
      go (Err WrongLength) z = absurd (let q : ◌≡◌ {A = ℕ} 1 0 = ap nat_abs z in omega (arith, q))
      go (Err (TooLarge f)) z = absurd (let q : ◌≡◌ {A = ℕ} 2 0 = ap nat_abs z in omega (arith, q))
      go (Err (Falling m)) z = absurd (let q : ◌≡◌ {A = ℕ} 3 0 = ap nat_abs z in omega (arith, q))
      go (Err Expansion) z = absurd (let q : ◌≡◌ {A = ℕ} 6 0 = ap nat_abs z in omega (arith, q))

pub write_tells : WriteTells
unfolding WriteTells frame_left
write_tells s o long = (
  result_is s o long,
  λ e. left_is s o long
      ∙ ap (λ (a : Written). left_by a (frame_of (record_in s)) o) (zero_is_frame s o long e),
)

pub boundary_reads_back : BoundaryReadsBack
unfolding BoundaryReadsBack ReadsBack record_in
boundary_reads_back s o p full room e = (
  read_result_is (frame_left_by s o) p read room
      ∙ ap (λ (x : Reading). pos (result_of x)) same,
  record_left_is (frame_left_by s o) p read room
      ∙ ap (λ (x : Reading). bytes_of x.indices) same ∙ bytes_of_record s full.long full.bytes,
)
  where
    shaped : Shaped (record_in s)
    shaped =
        record {
          parameters = length_tabulate (λ k. pair_in s (k + 1)) 10;
          indices = length_tabulate (λ k. pair_in s (k + 11)) 16;
        }

    back : read_of (frame_left_by s o)
        ≡ Some (record { indices = record_in s; correction = Correction.Clean; mark = 0 })
    back = ap read_of (left_is s o full.long) ∙ reads_back (record_in s) o shaped (zero_is_frame s o full.long e)

    same : reading_of (frame_left_by s o) ≡ record { indices = record_in s; correction = Correction.Clean; mark = 0 }
    same = sym (was_read (frame_left_by s o) (sym back)).1

    read : read_of (frame_left_by s o) ≡ Some (reading_of (frame_left_by s o))
    read = sym (some_read (frame_left_by s o) (was_read (frame_left_by s o) (sym back)).0 refl)

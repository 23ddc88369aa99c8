-- The promises about frames, carried to `reader::read` and `writer::write` by their contracts.
-- Assumes nothing.
use mathlib.Core.Path.{◌≡◌, ◌∙◌, sym, refl, ap, subst}
use mathlib.Core.List.{List}
use Rattle.std.specs.Prelude.{Option, Some, Ok}
use Prim.Native.Nat.{ℕ}
use lib.ListN.{length}
use Rattle.record.specs.declared.Record.{Record}
use Rattle.frame.specs.Answers.{reading_of, read_of, correction_number, Written, written_of, frame_left}
use Rattle.frame.specs.declared.Reading.{Reading}
use Rattle.frame.proofs.Answered.{accepted_only, left, some_read, was_read}
use Rattle.promises.specs.Frames.{Shaped, ReadsBack, WritesBack, SameBits, Made, OfTheFlips, DamageAlone}
use Rattle.promises.specs.Frames.{data_bit_of}
use Rattle.promises.specs.Frames.{OneMended, TwoReported, OneFrame}
use Rattle.promises.specs.Functions.{Answers, Leaves, FramesAnswered, WriteThenRead, ReadThenWrite, RepairByDamage, OneFlip}
use Rattle.promises.specs.Functions.{TwoFlips, NoTwoFrames}
use Rattle.promises.proofs.Frames.{reads_back, same_bits_back, damage_alone, one_mended, two_reported, one_frame}

-- what the contracts say of an answer and of the bytes left
answers_are : {s : List ℕ} {d : Option Reading} → Answers s d → d ≡ read_of s
answers_are a = a.allowed ∙ ap read_of a.bytes

-- a reading is that of the bytes
answers_is : {s : List ℕ} {d : Reading} → Answers s (Some d) → d ≡ reading_of s
answers_is {s} a = (was_read s (answers_are a)).1

pub frames_answered : FramesAnswered
unfolding FramesAnswered
frames_answered s d full a = answers_are a ∙ sym (some_read s full.long refl)

module _ {r : Record} {s t : List ℕ} {a : Written} (l : Leaves r s a t) where
  -- the answer is the definition's
  written_is : a ≡ written_of r (length s)
  written_is =
      l.allowed.0 ∙ ap (λ (x : List ℕ). written_of l.lent.0 (length x)) l.held
      ∙ ap (λ (x : Record). written_of x (length s)) l.handed

  -- so are the bytes left
  left_is : t ≡ frame_left r s
  left_is =
      sym l.left ∙ l.allowed.1 ∙ ap (frame_left l.lent.0) l.held
      ∙ ap (λ (x : Record). frame_left x s) l.handed

pub write_then_read : WriteThenRead
unfolding WriteThenRead ReadsBack
write_then_read r s t d shaped l a =
    answers_are a ∙ ap read_of (left_is l) ∙ reads_back r s shaped (sym (written_is l))

pub read_then_write : ReadThenWrite
unfolding ReadThenWrite SameBits
read_then_write s t u d a full long answers leaves = (clean, back)
  where
    is : d ≡ reading_of s
    is = answers_is answers

    both : (a ≡ Ok tt) × (u ≡ s) → WritesBack s t
    both p =
        record {
          accepted = ap (λ (x : Reading). written_of x.indices (length t)) (sym is) ∙ sym (written_is leaves) ∙ p.0;
          same = ap (λ (x : Reading). frame_left x.indices t) (sym is) ∙ sym (left_is leaves) ∙ p.1;
        }

    clean : (a ≡ Ok tt) × (u ≡ s) → (correction_number d ≡ 0) × (d.indices.sp ≡ 0) × (d.mark ≡ 0)
    clean p =
        let c = (same_bits_back s t full long).0 (both p) in (
          ap correction_number is ∙ c.parity,
          ap (λ (x : Reading). x.indices.sp) is
              ∙ c.expansion,
          ap (λ (x : Reading). x.mark) is ∙ c.order,
        )

    back : (correction_number d ≡ 0) × (d.indices.sp ≡ 0) × (d.mark ≡ 0) → (a ≡ Ok tt) × (u ≡ s)
    back q =
        let w = (same_bits_back s t full long).1
        (record {
          parity = ap correction_number (sym is) ∙ q.0;
          expansion = ap (λ (x : Reading). x.indices.sp) (sym is) ∙ q.1;
          order = ap (λ (x : Reading). x.mark) (sym is) ∙ q.2;
        }) in (
          written_is leaves ∙ ap (λ (x : Reading). written_of x.indices (length t)) is ∙ w.accepted,
          left_is leaves ∙ ap (λ (x : Reading). frame_left x.indices t) is ∙ w.same,
        )

-- a frame that `write` left is one that the writer made
made : {r : Record} {s w : List ℕ} → Shaped r → Leaves r s (Ok tt) w → Made r w
made {r} {s} {w} shaped l =
    record {
      shaped = shaped;
      accepted =
          subst (λ (n : ℕ). written_of r n ≡ Ok tt) (accepted_only r (length s) (sym (written_is l))).long
          (sym (written_is l));
      frame = left r s (Ok tt) (written_is l) ∙ sym (left_is l);
    }

pub repair_by_damage : RepairByDamage
unfolding RepairByDamage DamageAlone
repair_by_damage r w e alone damaged d =
    subst (λ (x : Reading). OfTheFlips r x damaged) (sym (answers_is d.reads_alone))
    (subst (λ (x : Reading). OfTheFlips r (reading_of e) x) (sym (answers_is d.reads_damaged))
    (damage_alone r w e (made d.shaped d.leaves) d.flips))

pub one_flip : OneFlip
unfolding OneFlip OneMended
one_flip r w e alone damaged d most n held =
    ap (λ (x : Reading). data_bit_of x.indices n) (answers_is d.reads_damaged)
    ∙ one_mended r w e (made d.shaped d.leaves) d.flips most n held

pub two_flips : TwoFlips
unfolding TwoFlips TwoReported
two_flips r w e alone damaged d m n two z =
    two_reported r w e (made d.shaped d.leaves) d.flips m n two
    (ap correction_number (sym (answers_is d.reads_damaged)) ∙ z)

pub no_two_frames : NoTwoFrames
unfolding NoTwoFrames OneFrame
no_two_frames s t c d full full' a b same-record same_number =
    one_frame s t full full'
    (ap (λ (x : Reading). x.indices) (sym (answers_is a)) ∙ same-record
    ∙ ap (λ (x : Reading). x.indices) (answers_is b))
    (ap correction_number (sym (answers_is a)) ∙ same_number ∙ ap correction_number (answers_is b))

-- The promises about frames, shown.
-- Assumes nothing.
use mathlib.Core.Path.{◌≡◌, ◌∙◌, sym, refl, ap, subst}
use mathlib.Core.Bool.{Bool, true, false, cond, true≢false}
use Rattle.std.specs.Prelude.{Ok}
use mathlib.Core.List.{List}
use Prim.Native.Nat.{ℕ, ◌+◌, ◌%◌, ◌^◌, ◌<◌, ◌≤◌}
use native.Mathlib.Omega.{arith}
use native.Mathlib.Decide.{ℕ_discrete}
use borrow.Author.Tests.{eq-eqb, ne_eqb}
use lib.Bits.{bit_xor, xor_lt}
use lib.Dec.{T, eqb, eqb→eq}
use lib.ListN.{length, get_or}
use Rattle.laws.specs.Lowest.{lowest}
use Rattle.laws.specs.Total.{bit}
use Rattle.laws.proofs.Lowest.{lowest_zero, lowest_found}
use Rattle.laws.proofs.Bits.{bit_xor_lem, same_bits}
use Rattle.laws.proofs.Tabulate.{length_tabulate, get_d_tabulate}
use Rattle.record.specs.Fields.{too_large_field, index_of, width_of}
use Rattle.record.specs.declared.Record.{Record}
use Rattle.record.proofs.Laws.{none_too_large, all_fit_none_too_large, record_is}
use Rattle.frame.specs.Places.{field_at, bit_in, bits_in, place_of, field_of, bit_of}
use Rattle.frame.specs.Parity.{guarded_name, guarded_place, number, mended, inverted}
use Rattle.frame.specs.Correction.{correction_of}
use Rattle.frame.specs.Frame.{byte_of, shift_of, bit_at, packed, index_in, record_of, sent, with_parity, parity_of, frame_of}
use Rattle.frame.specs.Answers.{record_mark, reading_of, read_of, correction_number, written_of}
use Rattle.frame.specs.declared.Correction.TheVariants as Correction
use Rattle.frame.specs.declared.Reading.{Reading}
use Rattle.frame.proofs.Order.{byte_small}
use Rattle.frame.proofs.Fields.{index_small, index_bit, field_small, bit_small, place_of_here, place_first, place_last}
use Rattle.frame.proofs.Fields.{field_of_place}
use Rattle.frame.proofs.Gathered.{bit_at_small}
use Rattle.frame.proofs.Packed.{sent_small}
use Rattle.frame.proofs.Mended.{guarded_field_small, guarded_bit_small, guarded_place_lem, guarded_first, guarded_apart}
use Rattle.frame.proofs.Mended.{mended_bits, mended_same, mended_there}
use Rattle.frame.proofs.Answered.{accepted, Accepted, accepted_only, left, read_eighteen, some_read}
use Rattle.frame.proofs.Corrections.{number_of_correction, clean_at_zero}
use Rattle.frame.proofs.Readings.{record_fits, reading_range, reading_case}
use Rattle.frame.proofs.Laws.{bit_packed, packed_byte_lem, length_packed, packed_bits, packed_cong_bits, number_cong}
use Rattle.frame.proofs.Laws.{record_cong, index_sent, clean_same, bit_number, clean_check, number_over, mended_over}
use Rattle.frame.proofs.Laws.{parity_below, written_clean, index_of_record, bits_width, as_sent, parity_told}
use Rattle.frame.proofs.Laws.{number_below, number_one, number_none, mended_one, number_two, number_third, nowhere}
use Rattle.promises.specs.Frames.{Shaped, Eighteen, ReadsBack, WritesBack, Clean, SameBits, Made, flipped}
use Rattle.promises.specs.Frames.{DamageAlone, Guarded, Flipped, Unflipped, AtMostOne, ExactlyTwo, OneMended}
use Rattle.promises.specs.Frames.{TwoReported, EveryFrameRead, OneFrame, Comes, SixteenFrames}
use Rattle.promises.specs.Repairs.{read_bit}

-- the frame of a record, bit by bit
module _ (r : Record) where
  abbrev bits_sent : ℕ → ℕ
  bits_sent = sent (with_parity r (parity_of r))

  -- each is the bit sent
  frame_bit : (p : ℕ) → 1 ≤ p → p ≤ 144 → bit_at (frame_of r) p ≡ bits_sent p
  unfolding frame_of
  frame_bit p a h = bit_packed bits_sent (sent_small (with_parity r (parity_of r))) p a h

  -- there are eighteen bytes of them
  frame_long : length (frame_of r) ≡ 18
  unfolding frame_of
  frame_long = length_packed bits_sent

  -- its number is 0
  frame_clean : number (bit_at (frame_of r)) ≡ 0
  frame_clean = number_cong (bit_at (frame_of r)) bits_sent frame_bit ∙ written_clean r

  -- a record whose indices fit is read in the bits sent for it
  record_sent : Shaped r → too_large_field r ≡ 0 → record_of bits_sent ≡ r
  record_sent shaped fits = record_is r (index_in bits_sent) shaped.parameters shaped.indices here
    where
      index : (f : ℕ) → 1 ≤ f → with_parity r (parity_of r) f ≡ index_of r f
      index f a = rw (ne_eqb f 0 (λ e. omega arith))

      here : (f : ℕ) → 1 ≤ f → f ≤ 28 → index_in bits_sent f ≡ index_of r f
      here f a l =
          index_sent (with_parity r (parity_of r)) f (omega arith)
          (rw (index f a, bits_width f a) (none_too_large r fits f a l))
          ∙ index f a

  -- so it is read in its frame
  record_read : Shaped r → too_large_field r ≡ 0 → record_of (mended (bit_at (frame_of r))) ≡ r
  record_read shaped fits =
      record_cong (mended (bit_at (frame_of r))) bits_sent
      (λ p a h. clean_same (bit_at (frame_of r)) frame_clean p a ∙ frame_bit p a h)
      ∙ record_sent shaped fits

pub reads_back : ReadsBack
unfolding ReadsBack
reads_back r s shaped e =
    ap read_of (sym (left r s (Ok tt) (sym e))) ∙ sym (some_read (frame_of r) (frame_long r) (sym whole))
  where
    a : Accepted r (length s)
    a = accepted_only r (length s) e

    whole : reading_of (frame_of r) ≡ record { indices = r; correction = Correction.Clean; mark = 0 }
    whole =
        read_eighteen (frame_of r) (frame_long r)
        ∙ (λ i. record {
          indices = record_read r shaped a.fits i;
          correction = (ap correction_of (frame_clean r) ∙ sym (clean_at_zero 0 refl)) i;
          mark = (ap record_mark (record_read r shaped a.fits) ∙ a.order) i;
        })

-- the parts of a reading
module _ (s : List ℕ) (long : length s ≡ 18) where
  -- the record is that of the mended bits
  read_indices : (reading_of s).indices ≡ record_of (mended (bit_at s))
  read_indices = ap (λ (x : Reading). x.indices) (read_eighteen s long)

  -- the number is that of the bits as they came
  pub read_number : correction_number (reading_of s) ≡ number (bit_at s)
  read_number =
      ap correction_number (read_eighteen s long) ∙ number_of_correction (number (bit_at s)) (number_below (bit_at s))

  -- the mark is that of the record
  read_mark : (reading_of s).mark ≡ record_mark (record_of (mended (bit_at s)))
  read_mark = ap (λ (x : Reading). x.mark) (read_eighteen s long)

  -- each bit read is the mended bit at its place
  pub read_bit_lem : (f i : ℕ) → 1 ≤ f → f ≤ 28 → i < width_of f → read_bit s f i ≡ mended (bit_at s) (place_of f i)
  read_bit_lem f i a l w =
      ap (λ (r : Record). bit (index_of r f) i) read_indices
      ∙ ap (λ (x : ℕ). bit x i) (index_of_record (mended (bit_at s)) f a l)
      ∙ index_bit (mended (bit_at s)) f (omega arith) (mended_bits (bit_at s) (bit_at_small s)) i (rw (bits_width f a) w)

-- clean bits have the parity of the record in them
clean_parity : (b : ℕ → ℕ) → ((p : ℕ) → b p < 2) → number b ≡ 0 → parity_of (record_of b) ≡ index_in b 0
clean_parity b bits e =
    same_bits 4 (parity_of (record_of b)) (index_in b 0) (parity_below (record_of b)) (index_small b 0 (omega arith) bits)
    (λ i l. let t = parity_told b bits i l in
    let c = clean_check b e i l in
    omega (arith, t, c))

-- a clean frame is the frame of the record read in it
back_again : (s : List ℕ) → Eighteen s → number (bit_at s) ≡ 0 → frame_of (record_of (bit_at s)) ≡ s
unfolding frame_of
back_again s full e =
    packed_cong_bits (sent (with_parity (record_of b) (parity_of (record_of b)))) b same
    ∙ packed_bits s full.long full.bytes
  where
    b : ℕ → ℕ
    b = bit_at s

    same : (p : ℕ) → 1 ≤ p → p ≤ 144 → sent (with_parity (record_of b) (parity_of (record_of b))) p ≡ b p
    same p a l =
        ap (λ (h : ℕ). sent (with_parity (record_of b) h) p) (clean_parity b (bit_at_small s) e)
        ∙ sym (as_sent b (bit_at_small s) p a l)

pub same_bits_back : SameBits
unfolding SameBits
same_bits_back s t full long = (clean, back)
  where
    b : ℕ → ℕ
    b = bit_at s

    r : Record
    r = record_of (mended b)

    is : (reading_of s).indices ≡ r
    is = read_indices s full.long

    clean : WritesBack s t → Clean s
    clean w = record {
      parity =
          read_number s full.long ∙ ap (λ (l : List ℕ). number (bit_at l)) (sym whole)
          ∙ frame_clean (reading_of s).indices;
      expansion = a.expansion;
      order = read_mark s full.long ∙ ap record_mark (sym is) ∙ a.order;
    }
      where
        a : Accepted (reading_of s).indices (length t)
        a = accepted_only (reading_of s).indices (length t) w.accepted

        whole : frame_of (reading_of s).indices ≡ s
        whole = left (reading_of s).indices t (Ok tt) (sym w.accepted) ∙ w.same

    back : Clean s → WritesBack s t
    back c =
        record {
          accepted = sym yes_accepted;
          same = sym (left (reading_of s).indices t (Ok tt) yes_accepted) ∙ whole;
        }
      where
        zero_number : number b ≡ 0
        zero_number = sym (read_number s full.long) ∙ c.parity

        same : r ≡ record_of b
        same = record_cong (mended b) b (λ p a l. clean_same b zero_number p a)

        yes_accepted : Ok tt ≡ written_of (reading_of s).indices (length t)
        yes_accepted =
            accepted (reading_of s).indices (length t) long
            (ap too_large_field is ∙ record_fits (mended b) (mended_bits b (bit_at_small s)))
            (ap record_mark is ∙ sym (read_mark s full.long) ∙ c.order)
            c.expansion

        whole : frame_of (reading_of s).indices ≡ s
        whole = ap frame_of (is ∙ same) ∙ back_again s full zero_number

-- flips laid over a frame, bit by bit
module _ (w e : List ℕ) where
  -- they are eighteen bytes again
  flipped_long : length (flipped w e) ≡ 18
  flipped_long = length_tabulate (λ k. bit_xor (get_or w k 0) (get_or e k 0)) 18

  -- each bit is reversed where the flips have 1
  flipped_bit : (p : ℕ) → 1 ≤ p → p ≤ 144 → bit_at (flipped w e) p ≡ (bit_at w p + bit_at e p) % 2
  unfolding bit_at
  flipped_bit p a l =
      ap (λ (x : ℕ). bit x (shift_of p))
      (get_d_tabulate (λ k. bit_xor (get_or w k 0) (get_or e k 0)) 0 18 (byte_of p) (byte_small p a l))
      ∙ bit_xor_lem (get_or w (byte_of p) 0) (get_or e (byte_of p) 0) (shift_of p)

-- an index that is read fits its field
read_fits : (s : List ℕ) (f : ℕ) → 1 ≤ f → f ≤ 28 → index_of (reading_of s).indices f < 2 ^ width_of f
read_fits s f a l = none_too_large (reading_of s).indices (reading_range s).fits f a l

-- a frame that the writer made
module _ (r : Record) (w : List ℕ) (made : Made r w) where
  -- it is eighteen bytes
  made_long : length w ≡ 18
  made_long = ap length (sym made.frame) ∙ frame_long r

  -- its number is 0
  made_clean : number (bit_at w) ≡ 0
  made_clean = ap (λ (l : List ℕ). number (bit_at l)) (sym made.frame) ∙ frame_clean r

  -- the record fits its fields
  made_fits : too_large_field r ≡ 0
  made_fits = (accepted_only r 18 made.accepted).fits

  -- the written record is read in it
  made_reads : (reading_of w).indices ≡ r
  made_reads =
      read_indices w made_long ∙ ap (λ (l : List ℕ). record_of (mended (bit_at l))) (sym made.frame)
      ∙ record_read r made.shaped made_fits

  module _ (e : List ℕ) (full : Eighteen e) where
    -- the number is that of the flips alone
    pub flips_number : correction_number (reading_of (flipped w e)) ≡ correction_number (reading_of e)
    flips_number =
        read_number (flipped w e) (flipped_long w e)
        ∙ number_over (bit_at w) (bit_at e) (bit_at (flipped w e)) (flipped_bit w e) made_clean
        ∙ sym (read_number e full.long)

    -- and so the correction
    pub flips_correction : (reading_of (flipped w e)).correction ≡ (reading_of e).correction
    flips_correction = reading_case (flipped w e) ∙ ap correction_of flips_number ∙ sym (reading_case e)

    -- each bit read is the written one, reversed where the flips alone give 1
    pub flips_bit : (f i : ℕ) → 1 ≤ f → f ≤ 28 → i < width_of f
        → read_bit (flipped w e) f i ≡ (bit (index_of r f) i + read_bit e f i) % 2
    flips_bit f i a l h =
        read_bit_lem (flipped w e) (flipped_long w e) f i a l h
        ∙ mended_over (bit_at w) (bit_at e) (bit_at (flipped w e)) (flipped_bit w e) made_clean (place_of f i) first last
        ∙ ap (λ (x : ℕ). (x + mended (bit_at e) (place_of f i)) % 2)
        (sym (clean_same (bit_at w) made_clean (place_of f i) first) ∙ sym (read_bit_lem w made_long f i a l h)
        ∙ ap (λ (x : Record). bit (index_of x f) i) made_reads)
        ∙ ap (λ (x : ℕ). (bit (index_of r f) i + x) % 2) (sym (read_bit_lem e full.long f i a l h))
      where
        wide : i < bits_in f
        wide = rw (bits_width f a) h

        first : 1 ≤ place_of f i
        first = place_first f i (omega arith) wide

        last : place_of f i ≤ 144
        last = place_last f i (omega arith) wide

    -- so each index read is the written one, exclusive or that of the flips alone
    flips_index : (f : ℕ) → 1 ≤ f → f ≤ 28
        → index_of (reading_of (flipped w e)).indices f ≡ bit_xor (index_of r f) (index_of (reading_of e).indices f)
    flips_index f a l =
        same_bits (width_of f) (index_of (reading_of (flipped w e)).indices f)
        (bit_xor (index_of r f) (index_of (reading_of e).indices f))
        (read_fits (flipped w e) f a l)
        (xor_lt (width_of f) (index_of r f) (index_of (reading_of e).indices f) (none_too_large r made_fits f a l)
        (read_fits e f a l))
        (λ i h. flips_bit f i a l h ∙ sym (bit_xor_lem (index_of r f) (index_of (reading_of e).indices f) i))

pub damage_alone : DamageAlone
unfolding DamageAlone
damage_alone r w e made full = record {
  indices = flips_index r w made e full;
  correction = flips_correction r w made e full;
  number = flips_number r w made e full;
}

-- of flips with no more than one guarded place among them: all but one are unflipped
module _ (e : List ℕ) where
  -- the guarded place of number n is flipped, as a test
  set_at : ℕ → Bool
  set_at n = eqb (bit_at e (guarded_place n)) 1

  -- a guarded place that is not flipped is unflipped
  not_set : (n : ℕ) → (Flipped e n → ⊥) → Unflipped e n
  not_set n w = let s = bit_at_small e (guarded_place n) in omega (arith, s, w)

  -- the lowest one that is flipped, or the first where none is
  pub record AllBut (m : ℕ) : Type 0 where
    pub guarded : Guarded m
    pub rest : (n : ℕ) → 1 ≤ n → n ≤ 15 → (n ≡ m → ⊥) → Unflipped e n

  -- there is such a one
  pub all_but_one : AtMostOne e → (m : ℕ) × AllBut m
  unfolding set_at
  all_but_one most = go (ℕ_discrete (lowest set_at 15) 0)
    where
      unset : (n : ℕ) → set_at n ≡ false → Flipped e n → ⊥
      unset n f t = true≢false (sym (eq-eqb (bit_at e (guarded_place n)) 1 t) ∙ f)

      go : Dec (lowest set_at 15 ≡ 0) → (m : ℕ) × AllBut m
      go (yes z) = (
        1,
        record {
          guarded = record { from = omega arith; upto = omega arith };
          rest = λ n a l w. not_set n (unset n (lowest_zero set_at 15 z n a l));
        },
      )
      go (no z) = (
        j,
        record {
          guarded = here;
          rest = λ n a l w. not_set n (λ f. w (most n j (record { from = a; upto = l }) here f flipped_there));
        },
      )
        where
          j : ℕ
          j = lowest set_at 15

          one : 1 ≤ j
          one = omega (arith, z)

          found : (j ≤ 15) × (set_at j ≡ true) × ((m : ℕ) → 1 ≤ m → m < j → set_at m ≡ false)
          found = lowest_found set_at 15 j refl one

          here : Guarded j
          here = record { from = one; upto = found.0 }

          flipped_there : Flipped e j
          flipped_there = eqb→eq (bit_at e (guarded_place j)) 1 (subst T (sym found.1) tt)

pub one_mended : OneMended
unfolding OneMended
one_mended r w e made full most n held =
    flips_bit r w made e full F K one (omega (arith, small)) wide
    ∙ (let z : read_bit e F K ≡ 0 = gone in
    let s : bit (index_of r F) K < 2 = omega arith in
    omega (arith, z, s))
  where
    F : ℕ
    F = field_of (guarded_name n)

    K : ℕ
    K = bit_of (guarded_name n)

    b : 1 ≤ n
    b = held.guarded.from

    k : n ≤ 15
    k = held.guarded.upto

    small : F < 29
    small = guarded_field_small n b k

    one : 1 ≤ F
    one = omega (arith, held.held)

    wide : K < width_of F
    wide = subst (λ (x : ℕ). K < x) (bits_width F one) (guarded_bit_small n b k)

    but : (m : ℕ) × AllBut e m
    but = all_but_one e most

    gone : read_bit e F K ≡ 0
    gone =
        read_bit_lem e full.long F K one (omega (arith, small)) wide
        ∙ ap (mended (bit_at e)) (sym (guarded_place_lem n b k))
        ∙ mended_one (bit_at e) (bit_at_small e) but.0 but.1.guarded.from but.1.guarded.upto
        but.1.rest n b k

-- two flipped places and no other, as the laws of the flips take them
module _ (e : List ℕ) (m n : ℕ) (two : ExactlyTwo e m n) where
  -- no other guarded place is flipped
  no_other : (q : ℕ) → 1 ≤ q → q ≤ 15 → (q ≡ m → ⊥) → (q ≡ n → ⊥) → Unflipped e q
  no_other q a l u v = two.no_more q (record { from = a; upto = l }) u v

  -- the number of the flips is not 0
  pub two_told : number (bit_at e) ≡ 0 → ⊥
  two_told =
      number_two (bit_at e) m n two.one.from two.one.upto two.other.from two.other.upto two.apart
      two.one_flipped
      two.other_flipped no_other

  -- and neither of the two
  pub two_third : (number (bit_at e) ≡ m → ⊥) × (number (bit_at e) ≡ n → ⊥)
  two_third =
      number_third (bit_at e) m n two.one.from two.one.upto two.other.from two.other.upto
      two.apart two.one_flipped
      two.other_flipped no_other

pub two_reported : TwoReported
unfolding TwoReported
two_reported r w e made full m n two z =
    two_told e m n two (sym (read_number e full.long) ∙ sym (flips_number r w made e full) ∙ z)

pub every_frame_read : EveryFrameRead
unfolding EveryFrameRead
every_frame_read s full = sym (some_read s full.long refl)

-- two sets of bits with the same record and number after correction are the same bits
module _ (b c : ℕ → ℕ) (bits : (p : ℕ) → b p < 2) (bits' : (p : ℕ) → c p < 2)
    (same-record : record_of (mended b) ≡ record_of (mended c)) (same_number : number b ≡ number c) where
  -- a mended bit of a field is a bit of the record
  mended_data : (p : ℕ) → 1 ≤ p → p ≤ 144 → (field_at p ≡ 0 → ⊥) → mended b p ≡ mended c p
  mended_data p a l e =
      sym (told b bits) ∙ ap (λ (r : Record). bit (index_of r (field_at p)) (bit_in p)) same-record ∙ told c bits'
    where
      one : 1 ≤ field_at p
      one = omega (arith, e)

      small : field_at p ≤ 28
      small = let h = field_small p a l in omega (arith, h)

      told : (d : ℕ → ℕ) (bits : (p : ℕ) → d p < 2)
          → bit (index_of (record_of (mended d)) (field_at p)) (bit_in p) ≡ mended d p
      told d bits =
          ap (λ (x : ℕ). bit x (bit_in p)) (index_of_record (mended d) (field_at p) one small)
          ∙ index_bit (mended d) (field_at p) (field_small p a l) (mended_bits d bits) (bit_in p) (bit_small p a l)
          ∙ ap (mended d) (place_of_here p a l)

  -- so each bit of a field is the same as it came
  data_same : (p : ℕ) → 1 ≤ p → p ≤ 144 → (field_at p ≡ 0 → ⊥) → b p ≡ c p
  data_same p a l e = go (ℕ_discrete p (guarded_place (number b)))
    where
      go : Dec (p ≡ guarded_place (number b)) → b p ≡ c p
      go (yes w) =
          let m = mended_data p a l e in
          let x : mended b p ≡ (b p + 1) % 2 = mended_there b p w in
          let y : mended c p ≡ (c p + 1) % 2 = mended_there c p (w ∙ ap guarded_place same_number) in
          let u = bits p in
          let v = bits' p in
          omega (arith, m, x, y, u, v)
      go (no w) =
          sym (mended_same b p w) ∙ mended_data p a l e
          ∙ mended_same c p (λ v. w (v ∙ ap guarded_place (sym same_number)))

  -- so the records before correction are the same, and with the number so is the parity
  index_same : (f : ℕ) → 1 ≤ f → f ≤ 28 → index_in b f ≡ index_in c f
  index_same f a l =
      same_bits (bits_in f) (index_in b f) (index_in c f) (index_small b f (omega arith) bits)
      (index_small c f (omega arith) bits')
      (λ i h. index_bit b f (omega arith) bits i h
      ∙ data_same (place_of f i) (place_first f i (omega arith) h) (place_last f i (omega arith) h) (apart i h)
      ∙ sym (index_bit c f (omega arith) bits' i h))
    where
      apart : (i : ℕ) → i < bits_in f → field_at (place_of f i) ≡ 0 → ⊥
      apart i h z = let g = field_of_place f i (omega arith) h in omega (arith, g, z)

  -- the records are
  records_same : record_of b ≡ record_of c
  records_same =
      record_is (record_of c) (index_in b) (length_tabulate (λ k. index_in c (k + 1)) 10)
      (length_tabulate (λ k. index_in c (k + 11)) 16) (λ f a l. index_same f a l ∙ sym (index_of_record c f a l))

  -- the parity is
  parity_same : index_in b 0 ≡ index_in c 0
  parity_same =
      same_bits 4 (index_in b 0) (index_in c 0) (index_small b 0 (omega arith) bits) (index_small c 0 (omega arith) bits')
      (λ i l. let x = parity_told b bits i l in
      let y = parity_told c bits' i l in
      let u = bit_number b i l in
      let v = bit_number c i l in
      let n : bit (number b) i ≡ bit (number c) i = ap (λ (k : ℕ). bit k i) same_number in
      let r : bit (parity_of (record_of b)) i ≡ bit (parity_of (record_of c))
      i = ap (λ (k : Record). bit (parity_of k) i) records_same in
      omega (arith, x, y, u, v, n, r))

  -- so all bits are
  all_same : (p : ℕ) → 1 ≤ p → p ≤ 144 → b p ≡ c p
  all_same p a l =
      as_sent b bits p a l
      ∙ ap (λ (r : Record). sent (with_parity r (index_in b 0)) p) records_same
      ∙ ap (λ (h : ℕ). sent (with_parity (record_of c) h) p) parity_same
      ∙ sym (as_sent c bits' p a l)

pub one_frame : OneFrame
unfolding OneFrame
one_frame s t full full' same-record same_number =
    sym (packed_bits s full.long full.bytes)
    ∙ packed_cong_bits (bit_at s) (bit_at t)
    (all_same (bit_at s) (bit_at t) (bit_at_small s) (bit_at_small t)
    (sym (read_indices s full.long) ∙ same-record ∙ read_indices t full'.long)
    (sym (read_number s full.long) ∙ same_number ∙ read_number t full'.long))
    ∙ packed_bits t full'.long full'.bytes

-- a frame with the guarded place of one number inverted
module _ (r : Record) (n : ℕ) (h : n < 16) where
  -- the bit at that place and no other
  alone : ℕ → ℕ
  alone p = cond (eqb p (guarded_place n)) 1 0

  -- a bit everywhere
  alone_small : (p : ℕ) → alone p < 2
  unfolding alone
  alone_small p = go (eqb p (guarded_place n))
    where
      go : (t : Bool) → cond t 1 0 < 2
      go true = omega arith
      go false = omega arith

  -- 1 at its place
  alone_there : (p : ℕ) → p ≡ guarded_place n → alone p ≡ 1
  unfolding alone
  alone_there p e = rw (eq-eqb p (guarded_place n) e)

  -- 0 elsewhere
  alone_away : (p : ℕ) → (p ≡ guarded_place n → ⊥) → alone p ≡ 0
  unfolding alone
  alone_away p e = rw (ne_eqb p (guarded_place n) e)

  -- its number is that of the place
  alone_number : number alone ≡ n
  alone_number = go (ℕ_discrete n 0)
    where
      none : n ≡ 0 → (m : ℕ) → 1 ≤ m → m ≤ 15 → alone (guarded_place m) ≡ 0
      none z m a l =
          alone_away (guarded_place m)
          (λ w. let f = guarded_first m a l in let g : guarded_place n ≡ 0 = ap guarded_place z
          ∙ nowhere in omega (arith, f, g, w))

      go : Dec (n ≡ 0) → number alone ≡ n
      go (yes z) =
          number_none alone alone_small 1 (omega arith) (omega arith) (λ m a l e. none z m a l)
          (none z 1 (omega arith) (omega arith)) ∙ sym z
      go (no z) =
          number_one alone alone_small n (omega (arith, z)) (omega arith)
          (λ m a l e. alone_away (guarded_place m) (λ w. e (guarded_apart m n a l (omega (arith, z)) (omega arith) w)))
          (alone_there (guarded_place n) refl)

  -- and correction takes it away
  alone_mended : (p : ℕ) → 1 ≤ p → mended alone p ≡ 0
  alone_mended p a = go (ℕ_discrete p (guarded_place n))
    where
      place : guarded_place (number alone) ≡ guarded_place n
      place = ap guarded_place alone_number

      go : Dec (p ≡ guarded_place n) → mended alone p ≡ 0
      go (yes e) = mended_there alone p (e ∙ sym place) ∙ ap inverted (alone_there p e)
      go (no e) = mended_same alone p (λ w. e (w ∙ place)) ∙ alone_away p e

  -- the frame with that bit inverted
  marked : ℕ → ℕ
  marked p = (bits_sent r p + alone p) % 2

  -- bits everywhere
  marked_small : (p : ℕ) → marked p < 2
  unfolding marked
  marked_small p = omega arith

  -- the bits of its bytes
  marked_over : (p : ℕ) → 1 ≤ p → p ≤ 144 → bit_at (packed marked) p ≡ (bits_sent r p + alone p) % 2
  unfolding marked
  marked_over p a l = bit_packed marked marked_small p a l

  -- its record is the frame's, its number that of the place
  comes : Shaped r → too_large_field r ≡ 0 → Comes r n
  comes shaped fits =
      record {
        from = packed marked;
        eighteen = record { long = length_packed marked; bytes = packed_byte_lem marked marked_small };
        reads =
            read_indices (packed marked) (length_packed marked)
            ∙ record_cong (mended (bit_at (packed marked))) (bits_sent r)
            (λ p a l. mended_over (bits_sent r) alone (bit_at (packed marked)) marked_over (written_clean r) p a l
            ∙ (let z = alone_mended p a in
            let s = sent_small (with_parity r (parity_of r)) p in
            omega (arith, z, s)))
            ∙ record_sent r shaped fits;
        numbered =
            read_number (packed marked) (length_packed marked)
            ∙ number_over (bits_sent r) alone (bit_at (packed marked)) marked_over (written_clean r)
            ∙ alone_number;
      }

pub sixteen_frames : SixteenFrames
unfolding SixteenFrames
sixteen_frames r shaped fits n h = comes r n h shaped (all_fit_none_too_large r fits)

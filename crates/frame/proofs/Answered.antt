-- The returns of `reader::read`, `packer::frame_of` and `writer::write`: what was computed step by step is what the
-- definitions say.
-- Assumes nothing.
use mathlib.Core.Path.{◌≡◌, ◌∙◌, sym, refl, ap}
use mathlib.Core.List.{List, []}
use Rattle.std.specs.Prelude.{Option, None, Some, Ok, Err, unwrap_or}
use Prim.Native.Nat.{ℕ, ◌*◌, ◌%◌, ◌<◌, ◌≤◌}
use native.Mathlib.Omega.{arith}
use native.Mathlib.Decide.{ℕ_discrete}
use borrow.Author.Tests.{eq-eqb, ne_eqb}
use lib.ListN.{length, get_or, set}
use lib.Seq.{get_or-set_same, get_or-set_other}
use Rattle.laws.specs.Total.{bit}
use Rattle.laws.specs.Tabulate.{tabulate}
use Rattle.laws.proofs.Total.{total_cong}
use Rattle.laws.proofs.Tabulate.{length_tabulate, get_d_tabulate}
use Rattle.laws.proofs.Bits.{from_bits_lt, from_bits_cong}
use Rattle.record.specs.Fields.{too_large_field, field_named}
use Rattle.record.specs.declared.Record.{Record}
use Rattle.record.proofs.Laws.{field_is}
use Rattle.frame.specs.Places.{field_at, bit_in}
use Rattle.frame.specs.Parity.{guarded_place, check, number_of, number, mended}
use Rattle.frame.specs.Frame.{bit_at, packed, index_in, record_of, sent, with_parity, parity_of, frame_of}
use Rattle.frame.specs.Correction.{correction_of}
use Rattle.frame.specs.Answers.{record_mark, not_read, read_in, reading_of, read_of}
use Rattle.frame.specs.Answers.{Written, written_of, left_by, frame_left}
use Rattle.frame.specs.Steps.{mended_fields, record_by, fields_of}
use Rattle.frame.specs.declared.Correction.{Correction}
use Rattle.frame.specs.declared.Reading.{Reading}
use Rattle.frame.specs.declared.Refusal.TheVariants.{WrongLength, TooLarge, Falling, Expansion}
use Rattle.frame.proofs.Fields.{field_small}
use Rattle.frame.proofs.Laws.{packed_cong_bits}
use Rattle.frame.proofs.Gathered.{bit_at_small}
use Rattle.frame.proofs.Number.{guarded_bits}
use Rattle.frame.proofs.Mended.{guarded_field, guarded_bit, guarded_field_small, field_of_guarded, bit_of_guarded}
use Rattle.frame.proofs.Mended.{guarded_entry, number_of_fields, record_read}

-- eighteen bytes are read
pub read_eighteen : (s : List ℕ) → length s ≡ 18 → reading_of s ≡ read_in (bit_at s)
unfolding reading_of
read_eighteen s e = rw (eq-eqb (length s) 18 e)

-- a reading of its parts
abbrev reading : Record → Correction → ℕ → Reading
reading r c m = record { indices = r; correction = c; mark = m }

-- other bytes are not
pub read_refused : (s : List ℕ) → (length s ≡ 18 → ⊥) → not_read ≡ reading_of s
unfolding reading_of
read_refused s e = rw (ne_eqb (length s) 18 e)

-- the returns of reading: eighteen bytes and what is read in them, or none
module _ (s : List ℕ) where
  pub some_read : {r : Reading} → length s ≡ 18 → r ≡ reading_of s → Some r ≡ read_of s
  unfolding read_of
  some_read e is = rw (eq-eqb (length s) 18 e) (ap Some is)

  pub none_read : (length s ≡ 18 → ⊥) → None ≡ read_of s
  unfolding read_of
  none_read w = rw (ne_eqb (length s) 18 w)

  -- for who asked: a frame was read
  pub was_read : {r : Reading} → Some r ≡ read_of s → (length s ≡ 18) × (r ≡ reading_of s)
  was_read {r} is = go (ℕ_discrete (length s) 18)
    where
      go : Dec (length s ≡ 18) → (length s ≡ 18) × (r ≡ reading_of s)
      go (yes e) = (e, let whole : Some (reading_of s) ≡ read_of s = some_read e refl in cc)
      go (no w) = absurd (let none : None ≡ read_of s = none_read w in cc)

  -- or it was not
  pub was_refused : None ≡ read_of s → length s ≡ 18 → ⊥
  was_refused is e = let whole : Some (reading_of s) ≡ read_of s = some_read e refl in cc

  -- what is read in any bytes, where nothing stands for what was not read
  pub read_in_any : {o : Option Reading} {d r : Reading} → o ≡ read_of s → d ≡ not_read → r ≡ unwrap_or o d → r ≡ reading_of s
  read_in_any is none e = rw (e, is, none) (go (ℕ_discrete (length s) 18))
    where
      go : Dec (length s ≡ 18) → unwrap_or (read_of s) not_read ≡ reading_of s
      go (yes long) = rw (← some_read long refl) refl
      go (no w) = rw (← none_read w) (read_refused s w)

-- in no bytes nothing is
pub nothing_read : not_read ≡ reading_of []
nothing_read = read_refused [] (λ e. omega arith)

-- the steps of reading
module _ (s v : List ℕ) (n : ℕ) (gathered : v ≡ tabulate (index_in (bit_at s)) 29)
    (numbered : n ≡ number_of (guarded_bits v)) where
  -- the number found in the list of indices is that of the frame
  pub number_is : n ≡ number (bit_at s)
  number_is =
      numbered ∙ ap (λ (l : List ℕ). number_of (guarded_bits l)) gathered ∙ number_of_fields (bit_at s) (bit_at_small s)

  -- what the steps answer, one after the other, is the reading
  pub read_whole : (c : Correction) (w : List ℕ) (m : ℕ) (r : Record) → length s ≡ 18 → c ≡ correction_of n
      → w ≡ mended_fields v c → r ≡ record_by w → m ≡ record_mark r
      → reading r c m ≡ reading_of s
  unfolding reading_of
  read_whole c w m r long corrected mended-is recorded marked =
      rw (eq-eqb (length s) 18 long)
      (λ i. record {
        indices = same i;
        correction = case i;
        mark = (marked ∙ ap record_mark same) i;
      })
    where
      case : c ≡ correction_of (number (bit_at s))
      case = corrected ∙ ap correction_of number_is

      same : r ≡ record_of (mended (bit_at s))
      same =
          recorded ∙ ap record_by mended-is ∙ ap (λ (l : List ℕ). record_by (mended_fields l c)) gathered
          ∙ ap (λ (x : Correction). record_by (mended_fields (tabulate (index_in (bit_at s)) 29) x)) case
          ∙ record_read (bit_at s) (bit_at_small s)

-- the answers of writing, lowest refusal first
module _ (r : Record) (n : ℕ) where
  -- 1: the buffer is not eighteen bytes
  pub wrong_length : (n ≡ 18 → ⊥) → Err WrongLength ≡ written_of r n
  unfolding written_of
  wrong_length e = rw (ne_eqb n 18 e)

  -- 2: an index too large
  pub too_large : n ≡ 18 → (f : ℕ) → f ≡ too_large_field r → (f ≡ 0 → ⊥) → Err (TooLarge f) ≡ written_of r n
  unfolding written_of
  too_large e f is w = rw (eq-eqb n 18 e, ne_eqb (too_large_field r) 0 (λ z. w (is ∙ z))) (ap (λ (x : ℕ). Err (TooLarge x)) is)

  -- as the record tells it
  pub field_told : n ≡ 18 → {f : ℕ} → Some f ≡ field_named (too_large_field r) → Err (TooLarge f) ≡ written_of r n
  field_told e {f} is = let k = field_is is in too_large e f (sym k.0) (λ z. k.1 (k.0 ∙ z))

  -- 3: the parameters fall
  pub falling : n ≡ 18 → too_large_field r ≡ 0 → (m : ℕ) → m ≡ record_mark r → (m ≡ 0 → ⊥) → Err (Falling m) ≡ written_of r n
  unfolding written_of
  falling e z m is w =
      rw (eq-eqb n 18 e, eq-eqb (too_large_field r) 0 z, ne_eqb (record_mark r) 0 (λ q. w (is ∙ q))) (ap (λ (x : ℕ). Err (Falling x)) is)

  -- 6: SP is set
  pub expansion : n ≡ 18 → too_large_field r ≡ 0 → record_mark r ≡ 0 → (r.sp ≡ 0 → ⊥) → Err Expansion ≡ written_of r n
  unfolding written_of
  expansion e z m w = rw (eq-eqb n 18 e, eq-eqb (too_large_field r) 0 z, eq-eqb (record_mark r) 0 m, ne_eqb r.sp 0 w)

  -- none of them: the frame
  pub accepted : n ≡ 18 → too_large_field r ≡ 0 → record_mark r ≡ 0 → r.sp ≡ 0 → Ok tt ≡ written_of r n
  unfolding written_of
  accepted e z m w = rw (eq-eqb n 18 e, eq-eqb (too_large_field r) 0 z, eq-eqb (record_mark r) 0 m, eq-eqb r.sp 0 w)

-- what acceptance says of a record
pub record Accepted (r : Record) (n : ℕ) : Type 0 where
  pub long : n ≡ 18
  pub fits : too_large_field r ≡ 0
  pub order : record_mark r ≡ 0
  pub expansion : r.sp ≡ 0

-- a record that is accepted meets all four
pub accepted_only : (r : Record) (n : ℕ) → written_of r n ≡ Ok tt → Accepted r n
accepted_only r n e = record { long = long; fits = fits; order = order; expansion = unset (ℕ_discrete r.sp 0) }
  where
    never : {A : Type 0} (a : Written) → a ≡ written_of r n → (Ok tt ≡ a → ⊥) → A
    never a w k = absurd (k (sym (w ∙ e)))

    size : Dec (n ≡ 18) → n ≡ 18
    size (yes w) = w
    size (no w) = never (Err WrongLength) (wrong_length r n w) (λ q. cc)

    long : n ≡ 18
    long = size (ℕ_discrete n 18)

    small : Dec (too_large_field r ≡ 0) → too_large_field r ≡ 0
    small (yes w) = w
    small (no w) =
        never (Err (TooLarge (too_large_field r))) (too_large r n long (too_large_field r) refl w)
        (λ q. cc)

    fits : too_large_field r ≡ 0
    fits = small (ℕ_discrete (too_large_field r) 0)

    rising : Dec (record_mark r ≡ 0) → record_mark r ≡ 0
    rising (yes w) = w
    rising (no w) =
        never (Err (Falling (record_mark r))) (falling r n long fits (record_mark r) refl w)
        (λ q. cc)

    order : record_mark r ≡ 0
    order = rising (ℕ_discrete (record_mark r) 0)

    unset : Dec (r.sp ≡ 0) → r.sp ≡ 0
    unset (yes w) = w
    unset (no w) =
        never (Err Expansion) (expansion r n long fits order w) (λ q. cc)

-- what the buffer holds after them
module _ (r : Record) (s : List ℕ) where
  -- what an answer leaves in the buffer
  pub left : (a : Written) → a ≡ written_of r (length s) → left_by a (frame_of r) s ≡ frame_left r s
  unfolding frame_left
  left a e = ap (λ (x : Written). left_by x (frame_of r) s) e

  -- the answer and the buffer at once
  pub answered : (a : Written) → a ≡ written_of r (length s)
      → (a ≡ written_of r (length s)) × (left_by a (frame_of r) s ≡ frame_left r s)
  answered a e = (e, left a e)

  -- the frame accepted, and laid into the buffer
  pub laid : (next : List ℕ) → Ok tt ≡ written_of r (length s) → next ≡ frame_of r
      → (Ok tt ≡ written_of r (length s)) × (next ≡ frame_left r s)
  laid next e is = (e, is ∙ left (Ok tt) e)

-- two ways to say the indices send the same frame
pub packed_cong : (u v : ℕ → ℕ) → ((f : ℕ) → f < 29 → u f ≡ v f) → packed (sent u) ≡ packed (sent v)
unfolding sent
packed_cong u v same =
    packed_cong_bits (sent u) (sent v) (λ p a l. ap (λ (x : ℕ). bit x (bit_in p)) (same (field_at p) (field_small p a l)))

-- a record has 29 indices by field, the parity bits among them
fields_long : (r : Record) → length (fields_of r) ≡ 29
unfolding fields_of
fields_long r = length_tabulate (with_parity r 0) 29

-- the steps of writing
module _ (r : Record) (v : List ℕ) (h : ℕ) (listed : v ≡ fields_of r) (numbered : h ≡ number_of (guarded_bits v)) where
  -- each stands at its field
  at_field : (f : ℕ) → f < 29 → get_or (fields_of r) f 0 ≡ with_parity r 0 f
  unfolding fields_of
  at_field f l = get_d_tabulate (with_parity r 0) 0 29 f l

  -- the guarded bits of that list are the bits sent, parity 0
  guarded_sent : (n : ℕ) → 1 ≤ n → n ≤ 15 → guarded_bits (fields_of r) n ≡ sent (with_parity r 0) (guarded_place n)
  unfolding sent
  guarded_sent n a l =
      guarded_entry n a l (fields_of r)
      ∙ ap (λ (x : ℕ). bit x (guarded_bit n)) (at_field (guarded_field n) (guarded_field_small n a l))
      ∙ sym (rw (field_of_guarded n a l, bit_of_guarded n a l))

  -- so the number of the list is the parity of the record
  pub parity_is : h ≡ parity_of r
  unfolding parity_of number
  parity_is =
      numbered ∙ ap (λ (l : List ℕ). number_of (guarded_bits l)) listed
      ∙ from_bits_cong (check (guarded_bits (fields_of r))) (check (λ n. sent (with_parity r 0) (guarded_place n))) 4
      (λ i q. ap (λ (k : ℕ). k % 2)
      (total_cong (λ n. bit n i * guarded_bits (fields_of r) n) (λ n. bit n i * sent (with_parity r 0) (guarded_place n)) 15
      (λ n a l. ap (λ (x : ℕ). bit n i * x) (guarded_sent n a l))))

  -- which is below 16
  pub parity_fits : h < 16
  parity_fits = rw numbered (from_bits_lt (check (guarded_bits v)) 4 (λ i l. omega arith))

  -- and is sent as the frame of the record
  pub frame_is : packed (sent (λ f. get_or (set v 0 h) f 0)) ≡ frame_of r
  unfolding frame_of
  frame_is =
      packed_cong (λ f. get_or (set v 0 h) f 0) (with_parity r h) (λ f l. go f l (ℕ_discrete f 0))
      ∙ ap (λ (k : ℕ). packed (sent (with_parity r k))) parity_is
    where
      long : length (fields_of r) ≡ 29
      long = fields_long r

      go : (f : ℕ) → f < 29 → Dec (f ≡ 0) → get_or (set v 0 h) f 0 ≡ with_parity r h f
      go f l (yes e) = rw (e, listed) (get_or-set_same (fields_of r) 0 h 0 (omega (arith, long)))
      go f l (no e) =
          rw listed (get_or-set_other (fields_of r) 0 f h 0 e ∙ at_field f l ∙ rw (ne_eqb f 0 e))

-- A loop over the rows of a book: what the entries from a row on come to.
-- Assumes nothing.
use mathlib.Core.Path.{◌≡◌, ◌∙◌, sym, refl, ap, ap₂}
use mathlib.Core.Bool.{Bool, true, false, cond}
use mathlib.Core.List.{List, [], ◌∷◌}
use Prim.Native.Nat.{ℕ, suc, ◌+◌, ◌-◌, ◌*◌, ◌<◌, ◌≤◌, min}
use native.Mathlib.Omega.{arith}
use native.Mathlib.Numerals.{add-one}
use native.Mathlib.Decide.{dec_le}
use borrow.Author.Tests.{eq-eqb, ne_eqb, le-leb, lt-leb, lt-ltb, le-ltb}
use lib.Dec.{eqb, ltb}
use lib.ListN.{length, get_or}
use Rattle.std.specs.Prelude.{Ok, Err}
use Rattle.laws.specs.Table.{both}
use Rattle.laws.specs.Tabulate.{tabulate_from}
use Rattle.laws.proofs.Tabulate.{length_tabulate, get_d_tabulate}
use Rattle.blocks.specs.Walk.{walked_of}
use Rattle.blocks.specs.declared.Cause.{Cause}
use Rattle.blocks.specs.declared.Walked.{Walked}
use Rattle.tally.specs.Tally.{has_key, holding_in, share, total_in, tally_new, tally_by, tally_of}
use Rattle.tally.specs.Book.{entries_in, entry_at, entries_of, laid_in, tallied, book_by, book_then}
use Rattle.tally.specs.Steps.{place_of, tally_or_full, appended}
use Rattle.tally.specs.Entering.{entry_of, of_entry, recording_entry, entering_of, book_after_recording}
use Rattle.tally.specs.declared.Entry.{Entry}
use Rattle.std.specs.Prelude.{Option, Some, None, Result, Ok, Err}
use Rattle.tally.specs.declared.Tallied.{Tallied}
use Rattle.tally.specs.declared.Tallied.TheVariants.{Entered, AlreadyHeld}
use Rattle.tally.specs.declared.Refusal.{Refusal}
use Rattle.tally.specs.declared.Refusal.TheVariants.{OtherCount, Full}
use Rattle.tally.specs.declared.RecordingRefusal.TheVariants.{Unsound}

-- the entries from row i on, up to a last one
abbrev pub rest : List ℕ → ℕ → ℕ → List Entry
rest b end i = tabulate_from i (entry_at b) (end - i)

-- all of them, one and those after it, none
rest_all : (b : List ℕ) (end : ℕ) → end ≡ entries_in b → rest b end 0 ≡ entries_of b
unfolding entries_of
rest_all b end e = ap (λ (n : ℕ). tabulate_from 0 (entry_at b) n) (omega (arith, e))

rest_next : (b : List ℕ) (end i : ℕ) → i < end → rest b end i ≡ entry_at b i ∷ rest b end (i + 1)
unfolding tabulate_from
rest_next b end i h =
    let e : end - i ≡ suc (end - (i + 1)) = omega arith in
    ap (λ (n : ℕ). tabulate_from i (entry_at b) n) e
    ∙ ap (λ (n : ℕ). entry_at b i ∷ tabulate_from n (entry_at b) (end - (i + 1))) (sym (add-one i))

rest_none : (b : List ℕ) (end i : ℕ) → end ≤ i → rest b end i ≡ []
unfolding tabulate_from
rest_none b end i h =
    let e : end - i ≡ 0 = omega arith in ap (λ (n : ℕ). tabulate_from i (entry_at b) n) e

-- how many entries there are: what the first word tells, or 4,096 where that is more
pub entries_told : (b : List ℕ) → get_or b 0 0 ≤ 4096 → get_or b 0 0 ≡ entries_in b
unfolding entries_in
entries_told b h = rw (le-leb (get_or b 0 0) 4096 h)

entries_most : (b : List ℕ) → 4096 < get_or b 0 0 → 4096 ≡ entries_in b
unfolding entries_in
entries_most b h = rw (lt-leb (get_or b 0 0) 4096 h)

pub entries_least : (b : List ℕ) {told : ℕ} → told ≡ min (get_or b 0 0) 4096 → told ≡ entries_in b
entries_least b {told} e = go (dec_le (get_or b 0 0) 4096)
  where
    go : Dec (get_or b 0 0 ≤ 4096) → told ≡ entries_in b
    go (yes h) = omega (arith, entries_told b h)
    go (no h) = omega (arith, entries_most b (omega arith))

-- there are never more than 4,096
pub entries_fit : (b : List ℕ) → entries_in b ≤ 4096
entries_fit b = omega (arith, entries_least b refl)

pub told_fits : (b : List ℕ) {told : ℕ} → told ≡ entries_in b → told ≤ 4096
told_fits b e = omega (arith, entries_fit b)

-- as many are listed
pub entries_length : (b : List ℕ) → length (entries_of b) ≡ entries_in b
unfolding entries_of
entries_length b = length_tabulate (entry_at b) (entries_in b)

-- `row_of` looks at row after row: the place of the key among the rows from here on is its place in the book
pub record Seeking (b : List ℕ) (end unit number i : ℕ) : Type 0 where
  pub short : end ≤ 4096
  pub passed : i ≤ end
  pub left : i + place_of (rest b end i) unit number ≡ place_of (entries_of b) unit number

pub seeking : (b : List ℕ) (end unit number : ℕ) → end ≡ entries_in b → Seeking b end unit number 0
seeking b end unit number e =
    record {
      short = omega (arith, entries_fit b);
      passed = omega arith;
      left = omega (arith, ap (λ (es : List Entry). place_of es unit number) (rest_all b end e));
    }

module _ {b : List ℕ} {end unit number i : ℕ} (a : Seeking b end unit number i) where
  -- what the row here makes of it
  here : i < end → (k : Bool) → has_key unit number (entry_at b i) ≡ k
      → i + cond k 0 (suc (place_of (rest b end (i + 1)) unit number)) ≡ place_of (entries_of b) unit number
  unfolding place_of
  here h k e =
      ap (λ (x : Bool). i + cond x 0 (suc (place_of (rest b end (i + 1)) unit number))) (sym e)
      ∙ sym (ap (λ (es : List Entry). i + place_of es unit number) (rest_next b end i h))
      ∙ a.left

  -- it has the key
  pub sought_found : i < end → get_or b (1 + i) 0 ≡ number → get_or b (4097 + i) 0 ≡ unit
      → i ≡ place_of (entries_of b) unit number
  sought_found h n u = let f = here h true (ap₂ both (eq-eqb _ _ n) (eq-eqb _ _ u)) in omega (arith, f)

  -- it has another number, or another unit
  pub sought_number : i < end → (get_or b (1 + i) 0 ≡ number → ⊥) → Seeking b end unit number (i + 1)
  sought_number h n =
      let f = here h false (ap (λ (x : Bool). both x (eqb (get_or b (4097 + i) 0) unit)) (ne_eqb _ _ n)) in
      record { short = a.short; passed = omega arith; left = omega (arith, f) }

  pub sought_unit : i < end → get_or b (1 + i) 0 ≡ number → (get_or b (4097 + i) 0 ≡ unit → ⊥)
      → Seeking b end unit number (i + 1)
  sought_unit h n u =
      let f = here h false (ap₂ both (eq-eqb _ _ n) (ne_eqb _ _ u)) in
      record { short = a.short; passed = omega arith; left = omega (arith, f) }

  -- all rows were looked at
  pub sought_none : end ≤ i → end ≡ place_of (entries_of b) unit number
  unfolding place_of
  sought_none h =
      let f = ap (λ (es : List Entry). i + place_of es unit number) (rest_none b end i h) in
      omega (arith, f, a.left, a.passed)

-- what is held, by the place of a key
place_held : (d : Entry) (es : List Entry) (unit number : ℕ) → place_of es unit number < length es
    → holding_in es unit number ≡ Some (get_or es (place_of es unit number) d).count
unfolding place_of holding_in
place_held d [] unit number h = absurd (omega arith)
place_held d (e ∷ es) unit number h = by (has_key unit number e) refl (place_held d es unit number)
  where
    by : (t : Bool) → has_key unit number e ≡ t
        → (place_of es unit number < length es
        → holding_in es unit number ≡ Some (get_or es (place_of es unit number) d).count)
        → holding_in (e ∷ es) unit number ≡ Some (get_or (e ∷ es) (place_of (e ∷ es) unit number) d).count
    by true q rest = rw q
    by false q rest =
        let g : place_of (e ∷ es) unit number ≡ suc (place_of es unit number) = rw q in
        rw q (rest (omega (arith, g)))

place_none : (es : List Entry) (unit number : ℕ) → length es ≤ place_of es unit number
    → holding_in es unit number ≡ None
unfolding place_of holding_in
place_none [] unit number h = refl
place_none (e ∷ es) unit number h = by (has_key unit number e) refl (place_none es unit number)
  where
    by : (t : Bool) → has_key unit number e ≡ t
        → (length es ≤ place_of es unit number → holding_in es unit number ≡ None)
        → holding_in (e ∷ es) unit number ≡ None
    by true q rest =
        let g : place_of (e ∷ es) unit number ≡ 0 = rw q in
        absurd (omega (arith, g))
    by false q rest =
        let g : place_of (e ∷ es) unit number ≡ suc (place_of es unit number) = rw q in
        rw q (rest (omega (arith, g)))

-- no key stands past the row after all
place_within : (es : List Entry) (unit number : ℕ) → place_of es unit number ≤ length es
unfolding place_of
place_within [] unit number = omega arith
place_within (e ∷ es) unit number = by (has_key unit number e) refl (place_within es unit number)
  where
    by : (t : Bool) → has_key unit number e ≡ t → place_of es unit number ≤ length es
        → place_of (e ∷ es) unit number ≤ length (e ∷ es)
    by true q rest = let g : place_of (e ∷ es) unit number ≡ 0 = rw q in omega (arith, g)
    by false q rest =
        let g : place_of (e ∷ es) unit number ≡ suc (place_of es unit number) = rw q in omega (arith, g, rest)

-- the same of a book, whose entries are its rows
pub row_holds : (b : List ℕ) (k : ℕ) (d : Entry) → k < entries_in b → get_or (entries_of b) k d ≡ entry_at b k
unfolding entries_of
row_holds b k d h = get_d_tabulate (entry_at b) d (entries_in b) k h

module _ (b : List ℕ) (unit number : ℕ) {row end : ℕ} (found : row ≡ place_of (entries_of b) unit number)
    (told : end ≡ entries_in b) where
  pub row_held : row < end → Some (get_or b (8193 + row) 0) ≡ holding_in (entries_of b) unit number
  row_held h =
      let n = entries_length b in
      let l : row < entries_in b = omega arith in
      sym
      (place_held (entry_at b row) (entries_of b) unit number (omega (arith, n))
      ∙ ap (λ (k : ℕ). Some (get_or (entries_of b) k (entry_at b row)).count) (sym found)
      ∙ ap (λ (e : Entry). Some e.count) (row_holds b row (entry_at b row) l))

  pub row_none : end ≤ row → None ≡ holding_in (entries_of b) unit number
  row_none h = let n = entries_length b in sym (place_none (entries_of b) unit number (omega (arith, n)))

  pub row_after : end ≤ row → row ≡ entries_in b
  row_after h = let n = entries_length b in omega (arith, n, place_within (entries_of b) unit number)

-- `total` sums row after row: the sum so far and what the rows from here on add is the total, and no sum so far is too
-- large for 64 bits
pub record Summing (b : List ℕ) (end unit sum i : ℕ) : Type 0 where
  pub short : end ≤ 4096
  pub passed : i ≤ end
  pub small : sum ≤ 4294967295 * i
  pub left : sum + total_in (rest b end i) unit ≡ total_in (entries_of b) unit

pub summing : (b : List ℕ) (end unit : ℕ) → end ≡ entries_in b → Summing b end unit 0 0
summing b end unit e =
    record {
      short = omega (arith, entries_fit b);
      passed = omega arith;
      small = omega arith;
      left = omega (arith, ap (λ (es : List Entry). total_in es unit) (rest_all b end e));
    }

module _ {b : List ℕ} {end unit sum i : ℕ} (a : Summing b end unit sum i) where
  -- what the row here adds
  adds : i < end → (x : ℕ) → share unit (entry_at b i) ≡ x
      → sum + x + total_in (rest b end (i + 1)) unit ≡ total_in (entries_of b) unit
  unfolding total_in
  adds h x e =
      let f = ap (λ (es : List Entry). total_in es unit) (rest_next b end i h) in
      omega (arith, f, e, a.left)

  -- its count, where it is the unit's; which fits 32 bits
  pub summed_own : i < end → get_or b (4097 + i) 0 ≡ unit → get_or b (8193 + i) 0 ≤ 4294967295
      → {more : ℕ} → more ≡ sum + get_or b (8193 + i) 0 → Summing b end unit more (i + 1)
  summed_own h u w {more} m =
      record {
        short = a.short;
        passed = omega arith;
        small = omega (arith, a.small);
        left =
            omega (
              arith,
              m,
              adds h (get_or b (8193 + i) 0) (ap (λ (y : Bool). cond y (get_or b (8193 + i) 0) 0) (eq-eqb _ _ u)),
            );
      }

  -- nothing, where it is another's
  pub summed_other : i < end → (get_or b (4097 + i) 0 ≡ unit → ⊥) → {more : ℕ} → more ≡ sum
      → Summing b end unit more (i + 1)
  summed_other h u {more} m =
      record {
        short = a.short;
        passed = omega arith;
        small = omega (arith, a.small);
        left = omega (arith, m, adds h 0 (ap (λ (y : Bool). cond y (get_or b (8193 + i) 0) 0) (ne_eqb _ _ u)));
      }

  -- all rows were added
  pub summed_all : end ≤ i → sum ≡ total_in (entries_of b) unit
  unfolding total_in
  summed_all h =
      let f = ap (λ (es : List Entry). total_in es unit) (rest_none b end i h) in
      omega (arith, f, a.left)

-- `append` lays an entry in the row after those there are, where that is below 4,096
pub no_room : (b : List ℕ) (e : Entry) {row : ℕ} → row ≡ entries_in b → 4096 ≤ row
    → ((Err Full) ≡ tally_or_full b) × (b ≡ appended b e)
no_room b e {row} told h =
    let f : ltb (entries_in b) 4096 ≡ false = le-ltb (entries_in b) 4096 (omega arith) in
    (rw f, rw f)

pub room : (b : List ℕ) (e : Entry) {row : ℕ} → row ≡ entries_in b → row < 4096
    → ((Ok Entered) ≡ tally_or_full b) × (laid_in b row e ≡ appended b e)
room b e {row} told h =
    let f : ltb (entries_in b) 4096 ≡ true = lt-ltb (entries_in b) 4096 (omega arith) in
    (rw f, rw (f, told))

-- `enter` goes by what is held: the same count, another one, nothing
module _ (b : List ℕ) (e : Entry) where
  -- what is answered, and the book then
  abbrev Answers : Result Tallied Refusal → List ℕ → Type 0
  Answers t after = (t ≡ tallied b e) × (after ≡ book_then b e)

  by : (h : Option ℕ) → h ≡ holding_in (entries_of b) e.unit e.number → (t : Result Tallied Refusal)
      → tally_by h (length (entries_of b)) e.count ≡ t → Answers t (book_by t b e)
  unfolding tally_of book_then
  by h asked t f =
      let g : tally_of (entries_of b) e ≡ t =
      ap (λ (x : Option ℕ). tally_by x (length (entries_of b)) e.count) (sym asked) ∙ f
      in
      (sym g, ap (λ (x : Result Tallied Refusal). book_by x b e) (sym g))

  pub held_same : {held : ℕ} → Some held ≡ holding_in (entries_of b) e.unit e.number → held ≡ e.count
      → Answers (Ok AlreadyHeld) b
  held_same {held} c f =
      by (Some held) c (Ok AlreadyHeld) (ap (λ (x : Bool). cond x (Ok AlreadyHeld) (Err OtherCount)) (eq-eqb held e.count f))

  pub held_other : {held : ℕ} → Some held ≡ holding_in (entries_of b) e.unit e.number → (held ≡ e.count → ⊥)
      → Answers (Err OtherCount) b
  held_other {held} c f =
      by (Some held) c (Err OtherCount) (ap (λ (x : Bool). cond x (Ok AlreadyHeld) (Err OtherCount)) (ne_eqb held e.count f))

  pub held_none : {t : Result Tallied Refusal} {after : List ℕ} → None ≡ holding_in (entries_of b) e.unit e.number
      → t ≡ tally_or_full b → after ≡ appended b e → Answers t after
  held_none {t} {after} c f g =
      let w = by None c (tally_or_full b) (ap tally_new (entries_length b)) in
      (f ∙ w.0, g ∙ w.1)

-- `enter_recording` goes by how the walk ends
module _ (b s : List ℕ) (count : ℕ) {w : Walked} (walked : w ≡ walked_of s) where
  pub recording_refused : {cause : Cause} → w.ending ≡ Err cause
      → (Err (Unsound cause) ≡ entering_of b s count) × (b ≡ book_after_recording b s count)
  unfolding entering_of book_after_recording
  recording_refused {cause} f =
      let g : (walked_of s).ending ≡ Err cause = sym (ap (λ (x : Walked). x.ending) walked) ∙ f in
      (rw g, rw g)

  pub recording_sound : w.ending ≡ Ok tt → {e : Entry} {t : Result Tallied Refusal} {after : List ℕ}
      → e ≡ entry_of w.walk.heading count → t ≡ tallied b e → after ≡ book_then b e
      → (of_entry t ≡ entering_of b s count) × (after ≡ book_after_recording b s count)
  unfolding entering_of book_after_recording recording_entry
  recording_sound f {e} {t} {after} h p q =
      let g : (walked_of s).ending ≡ Ok tt = sym (ap (λ (x : Walked). x.ending) walked) ∙ f in
      let k : e ≡ entry_of (walked_of s).walk.heading count =
      h ∙ ap (λ (x : Walked). entry_of x.walk.heading count) walked
      in
      (rw g (ap of_entry (p ∙ ap (tallied b) k)), rw g (q ∙ ap (book_then b) k))

-- A book's words and its entries: the entries after a call are those that the definitions over entries say.
-- Assumes nothing.
use mathlib.Core.Path.{◌≡◌, ◌∙◌, sym, refl, ap}
use mathlib.Core.List.{List, [], ◌∷◌, ◌++◌}
use Prim.Native.Nat.{ℕ, ◌+◌, ◌<◌}
use native.Mathlib.Omega.{arith}
use native.Mathlib.Decide.{ℕ_discrete}
use lib.ListN.{length, get_or, set, length-set, length-append, get_or-append}
use lib.Seq.{get_or-set_same, get_or-set_other, get_or-append_seam}
use Rattle.laws.specs.Tabulate.{tabulate}
use Rattle.laws.proofs.Tabulate.{tabulate_is}
use Rattle.tally.specs.Tally.{most, entries_by, entries_then}
use Rattle.tally.specs.Book.{words, entries_in, entry_at, entries_of, laid_in, tallied, book_by, book_then}
use Rattle.tally.specs.History.{IsBook}
use Rattle.tally.specs.declared.Entry.{Entry}
use Rattle.tally.proofs.Rows.{entries_told, entries_length, row_holds}
use Rattle.tally.proofs.Ways.{Way, held, other, full, new, ways, entries_are}
use Rattle.std.specs.Prelude.{Result, Ok, Err}
use Rattle.tally.specs.declared.Tallied.{Tallied}
use Rattle.tally.specs.declared.Tallied.TheVariants.{Entered, AlreadyHeld}
use Rattle.tally.specs.declared.Refusal.{Refusal}
use Rattle.tally.specs.declared.Refusal.TheVariants.{OtherCount, Full}

-- the entries are so many rows
all_rows : (b : List ℕ) {n : ℕ} → entries_in b ≡ n → entries_of b ≡ tabulate (entry_at b) n
unfolding entries_of
all_rows b h = ap (tabulate (entry_at b)) h

-- a book with its number laid, its unit too, its count too
abbrev with_number : List ℕ → ℕ → Entry → List ℕ
with_number b row e = set b (1 + row) e.number

abbrev with_unit : List ℕ → ℕ → Entry → List ℕ
with_unit b row e = set (with_number b row e) (4097 + row) e.unit

abbrev with_count : List ℕ → ℕ → Entry → List ℕ
with_count b row e = set (with_unit b row e) (8193 + row) e.count

-- a word that is stored is there
stored : (l : List ℕ) (i v : ℕ) → length l ≡ words → i < words → get_or (set l i v) i 0 ≡ v
stored l i v n h = get_or-set_same l i v 0 (omega arith)

-- an entry laid into a row below 4,096
module _ (b : List ℕ) (row : ℕ) (e : Entry) (book : IsBook b) (room : row < 4096) where
  -- the words past those that are laid after it are as it leaves them
  unit_on : (k : ℕ) → (k ≡ 0 → ⊥) → (k ≡ 8193 + row → ⊥) → get_or (laid_in b row e) k 0 ≡ get_or (with_unit b row e) k 0
  unit_on k z c =
      get_or-set_other (with_count b row e) 0 k (row + 1) 0 z
      ∙ get_or-set_other (with_unit b row e) (8193 + row) k e.count 0 c

  number_on : (k : ℕ) → (k ≡ 0 → ⊥) → (k ≡ 4097 + row → ⊥) → (k ≡ 8193 + row → ⊥)
      → get_or (laid_in b row e) k 0 ≡ get_or (with_number b row e) k 0
  number_on k z u c = unit_on k z c ∙ get_or-set_other (with_number b row e) (4097 + row) k e.unit 0 u

  other_word : (k : ℕ) → (k ≡ 0 → ⊥) → (k ≡ 1 + row → ⊥) → (k ≡ 4097 + row → ⊥) → (k ≡ 8193 + row → ⊥)
      → get_or (laid_in b row e) k 0 ≡ get_or b k 0
  other_word k z n u c = number_on k z u c ∙ get_or-set_other b (1 + row) k e.number 0 n

  -- those that are laid
  number_word : get_or (laid_in b row e) (1 + row) 0 ≡ e.number
  number_word =
      number_on (1 + row) (λ q. omega arith) (λ q. omega arith) (λ q. omega arith)
      ∙ stored b (1 + row) e.number book (omega arith)

  unit_word : get_or (laid_in b row e) (4097 + row) 0 ≡ e.unit
  unit_word =
      unit_on (4097 + row) (λ q. omega arith) (λ q. omega arith)
      ∙ stored (with_number b row e) (4097 + row) e.unit (simp length-set book) (omega arith)

  count_word : get_or (laid_in b row e) (8193 + row) 0 ≡ e.count
  count_word =
      get_or-set_other (with_count b row e) 0 (8193 + row) (row + 1) 0 (λ q. omega arith)
      ∙ stored (with_unit b row e) (8193 + row) e.count (simp length-set book) (omega arith)

  pub laid_entries : entries_in (laid_in b row e) ≡ row + 1
  laid_entries =
      let h : get_or (laid_in b row e) 0 0 ≡ row + 1 =
      stored (with_count b row e) 0 (row + 1) (simp length-set book) (omega arith)
      in
      sym (entries_told (laid_in b row e) (omega (arith, h))) ∙ h

  -- so the row holds the entry, and the rows before it hold what they held
  laid_row : entry_at (laid_in b row e) row ≡ e
  laid_row = λ i. record { unit = unit_word i; number = number_word i; count = count_word i }

  laid_before : (i : ℕ) → i < row → entry_at (laid_in b row e) i ≡ entry_at b i
  laid_before i h =
      λ k. record {
        unit = other_word (4097 + i) (λ q. omega arith) (λ q. omega arith) (λ q. omega arith) (λ q. omega arith) k;
        number = other_word (1 + i) (λ q. omega arith) (λ q. omega arith) (λ q. omega arith) (λ q. omega arith) k;
        count = other_word (8193 + i) (λ q. omega arith) (λ q. omega arith) (λ q. omega arith) (λ q. omega arith) k;
      }

-- a new entry comes behind those there are
module _ (b : List ℕ) (e : Entry) (book : IsBook b) (room : entries_in b < most) where
  row_of : (k : ℕ) → k < entries_in b + 1 → Dec (k ≡ entries_in b)
      → entry_at (laid_in b (entries_in b) e) k ≡ get_or (entries_of b ++ (e ∷ [])) k e
  row_of k h (yes q) =
      ap (entry_at (laid_in b (entries_in b) e)) q
      ∙ laid_row b (entries_in b) e book room
      ∙ sym (get_or-append_seam (entries_of b) e [] e)
      ∙ ap (λ (n : ℕ). get_or (entries_of b ++ (e ∷ [])) n e) (entries_length b ∙ sym q)
  row_of k h (no q) =
      let l : k < length (entries_of b) = omega (arith, entries_length b) in
      laid_before b (entries_in b) e book room k (omega arith)
      ∙ sym (row_holds b k e (omega arith))
      ∙ sym (get_or-append (entries_of b) (e ∷ []) e k l)

  pub laid_behind : entries_of (laid_in b (entries_in b) e) ≡ entries_of b ++ (e ∷ [])
  laid_behind =
      all_rows (laid_in b (entries_in b) e) (laid_entries b (entries_in b) e book room)
      ∙ tabulate_is (entry_at (laid_in b (entries_in b) e)) e (entries_of b ++ (e ∷ [])) (entries_in b + 1)
      (length-append (entries_of b) (e ∷ []) ∙ ap (λ (n : ℕ). n + 1) (entries_length b))
      (λ k h. row_of k h (ℕ_discrete k (entries_in b)))

-- entering an entry: a book stays one, and the entries are as the definitions over entries say
pub then_long : (b : List ℕ) (e : Entry) → IsBook b → IsBook (book_then b e)
unfolding book_then
then_long b e book = by (tallied b e)
  where
    by : (t : Result Tallied Refusal) → IsBook (book_by t b e)
    by (Ok Entered) = simp length-set book
    by (Ok AlreadyHeld) = book
    by (Err refusal) = book

pub then_entries : (b : List ℕ) (e : Entry) → IsBook b → entries_of (book_then b e) ≡ entries_then (entries_of b) e
unfolding book_then
then_entries b e book = by (tallied b e) (ways (entries_of b) e) ∙ sym (entries_are (entries_of b) e refl)
  where
    by : (t : Result Tallied Refusal) → Way (entries_of b) e t → entries_of (book_by t b e) ≡ entries_by t (entries_of b) e
    by (Ok AlreadyHeld) (held p) = refl
    by (Err OtherCount) (other c p n) = refl
    by (Err Full) (full p l) = refl
    by (Ok Entered) (new p l) = laid_behind b e book (omega (arith, entries_length b))

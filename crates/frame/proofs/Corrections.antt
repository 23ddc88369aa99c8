-- Cases and numbers of correction: the returns of `parity::correction_of`, `parity::number_for` and `parity::mend`, and
-- that each number has its case.
-- Assumes nothing.
use mathlib.Core.Path.{◌≡◌, ◌∙◌, sym, refl, ap}
use mathlib.Core.Bool.{Bool, true, false}
use mathlib.Core.List.{List}
use Prim.Native.Nat.{ℕ, ◌+◌, ◌-◌, ◌/◌, ◌%◌, ◌<◌, ◌≤◌}
use native.Mathlib.Omega.{arith}
use native.Mathlib.Decide.{ℕ_discrete}
use borrow.Author.Tests.{eq-eqb, ne_eqb, lt-ltb, le-ltb}
use lib.Dec.{T, eqb, eqb→eq}
use lib.ListN.{get_or}
use Rattle.laws.specs.Lowest.{lowest_from}
use Rattle.laws.specs.Table.{all_below}
use Rattle.laws.proofs.Lowest.{NoneUpTo, none_found, none_at_all}
use Rattle.laws.proofs.Table.{below}
use Rattle.frame.specs.Parity.{guarded_name}
use Rattle.frame.specs.Correction.{correction_of, names, data_number, number_of_case}
use Rattle.frame.specs.Steps.{guarded_entries}
use Rattle.frame.specs.declared.Correction.{Correction}
use Rattle.frame.specs.declared.Correction.TheVariants.{Clean, Parity, Data}
use Rattle.frame.proofs.Places.{next}
use Rattle.frame.proofs.Mended.{guarded_field, guarded_bit, entry_field, entry_bit}

-- ---- from a number to its case

-- 0 is clean
pub clean_at_zero : (n : ℕ) → n ≡ 0 → Clean ≡ correction_of n
unfolding correction_of
clean_at_zero n e = rw (eq-eqb n 0 e)

module _ (n : ℕ) (e : n ≡ 0 → ⊥) where
  -- and so is a number over 15
  pub clean_beyond : 15 < n → Clean ≡ correction_of n
  unfolding correction_of
  clean_beyond h = rw (ne_eqb n 0 e, le-ltb n 16 (omega arith))

  -- the number of a guarded bit that is in no field is that of a parity hit
  parity_hit : n ≤ 15 → guarded_field n ≡ 0 → Parity n ≡ correction_of n
  unfolding correction_of
  parity_hit h z = rw (ne_eqb n 0 e, lt-ltb n 16 (omega arith), eq-eqb (guarded_field n) 0 z)

  -- that of any other is a data hit, with its field and bit
  data_hit : n ≤ 15 → (guarded_field n ≡ 0 → ⊥) → Data (guarded_field n) (guarded_bit n) ≡ correction_of n
  unfolding correction_of
  data_hit h z = rw (ne_eqb n 0 e, lt-ltb n 16 (omega arith), ne_eqb (guarded_field n) 0 z)

  -- as the code finds them, by the entry in its list t
  module _ (t : List ℕ) (same : t ≡ guarded_entries) (h : n ≤ 15) where
    is_field : get_or t (n - 1) 0 / 16 ≡ guarded_field n
    is_field = rw same (entry_field n (omega (arith, e)) h)

    is_bit : get_or t (n - 1) 0 % 16 ≡ guarded_bit n
    is_bit = rw same (entry_bit n (omega (arith, e)) h)

    pub parity_case : get_or t (n - 1) 0 / 16 ≡ 0 → Parity n ≡ correction_of n
    parity_case z = parity_hit h (sym is_field ∙ z)

    pub data_case : (get_or t (n - 1) 0 / 16 ≡ 0 → ⊥)
        → Data (get_or t (n - 1) 0 / 16) (get_or t (n - 1) 0 % 16) ≡ correction_of n
    data_case z = (λ i. Data (is_field i) (is_bit i)) ∙ data_hit h (λ w. z (is_field ∙ w))

-- ---- what a case says of its number

-- the field and the bit that a data case names
abbrev field_named : Correction → ℕ
field_named Clean = 0
field_named (Parity n) = 0
field_named (Data f i) = f

abbrev bit_named : Correction → ℕ
bit_named Clean = 0
bit_named (Parity n) = 0
bit_named (Data f i) = i

-- whether it is one
abbrev is_data : Correction → ℕ
is_data Clean = 0
is_data (Parity n) = 0
is_data (Data f i) = 1

-- a data case is that of a guarded bit in a field
pub record OfData (n f i : ℕ) : Type 0 where
  pub from : 1 ≤ n
  pub named : f ≡ guarded_field n
  pub there : i ≡ guarded_bit n
  pub held : 1 ≤ f

pub of_data : (n f i : ℕ) → n < 16 → correction_of n ≡ Data f i → OfData n f i
of_data n f i h e = go (ℕ_discrete n 0) (ℕ_discrete (guarded_field n) 0)
  where
    never : {c : Correction} → c ≡ correction_of n → is_data c ≡ 0 → OfData n f i
    never is none = absurd (let z : 0 ≡ 1 = sym none ∙ ap is_data (is ∙ e) in omega (arith, z))

    go : Dec (n ≡ 0) → Dec (guarded_field n ≡ 0) → OfData n f i
    go (yes z) w = never (clean_at_zero n z) refl
    go (no z) (yes w) = never (parity_hit n z (omega arith) w) refl
    go (no z) (no w) =
        let is = data_hit n z (omega arith) w ∙ e in
        let named : guarded_field n ≡ f = ap field_named is in
        record {
          from = omega (arith, z);
          named = sym named;
          there = sym (ap bit_named is);
          held = omega (arith, w, named);
        }

-- a parity case is that of a guarded bit in no field, and so is none of the record's
pub of_parity : (n m : ℕ) → n < 16 → correction_of n ≡ Parity m → (n ≡ 0 → ⊥) → guarded_field n ≡ 0
of_parity n m h e z = go (ℕ_discrete (guarded_field n) 0)
  where
    go : Dec (guarded_field n ≡ 0) → guarded_field n ≡ 0
    go (yes w) = w
    go (no w) = absurd (let q : 1 ≡ 0 = ap is_data (data_hit n z (omega arith) w ∙ e) in omega (arith, q))

-- ---- and back

-- each number has its case, by a test over all sixteen
there_and_back : T (all_below 16 (λ n. eqb (number_of_case (correction_of n)) n))
unfolding correction_of data_number lowest_from
there_and_back = tt

pub number_of_correction : (n : ℕ) → n < 16 → number_of_case (correction_of n) ≡ n
number_of_correction n h =
    eqb→eq (number_of_case (correction_of n)) n
    (below (λ m. eqb (number_of_case (correction_of m)) m) 16 there_and_back n h)

-- field 0 holds no data bit
pub no_data_number : (f i : ℕ) → f ≡ 0 → 0 ≡ data_number f i
unfolding data_number
no_data_number f i e = rw (eq-eqb f 0 e)

-- a bit of any other field is looked for in the code's list t of entries
module _ (f i : ℕ) where
  -- whether number n is its own
  abbrev pub here : ℕ → Bool
  here n = names f i (guarded_name n)

  module _ (t : List ℕ) (same : t ≡ guarded_entries) (n : ℕ) (h : n < 15) where
    entry : get_or t n 0 ≡ get_or guarded_entries (n + 1 - 1) 0
    entry = ap (λ (l : List ℕ). get_or l n 0) same ∙ ap (λ (k : ℕ). get_or guarded_entries k 0) (sym (next n))

    next_field : get_or t n 0 / 16 ≡ guarded_field (n + 1)
    next_field = rw entry (entry_field (n + 1) (omega arith) (omega arith))

    next_bit : get_or t n 0 % 16 ≡ guarded_bit (n + 1)
    next_bit = rw entry (entry_bit (n + 1) (omega arith) (omega arith))

    -- the next number's entry has another field
    pub other_field : (get_or t n 0 / 16 ≡ f → ⊥) → here (n + 1) ≡ false
    other_field e = rw (ne_eqb (guarded_field (n + 1)) f (λ w. e (next_field ∙ w)))

    -- or the field, and another bit
    pub other_bit : get_or t n 0 / 16 ≡ f → (get_or t n 0 % 16 ≡ i → ⊥) → here (n + 1) ≡ false
    other_bit e w =
        rw (eq-eqb (guarded_field (n + 1)) f (sym next_field ∙ e), ne_eqb (guarded_bit (n + 1)) i (λ v. w (next_bit ∙ v)))

    -- or both
    pub this_bit : get_or t n 0 / 16 ≡ f → get_or t n 0 % 16 ≡ i → here (n + 1) ≡ true
    this_bit e w =
        rw (
          eq-eqb (guarded_field (n + 1)) f (sym next_field ∙ e),
          eq-eqb (guarded_bit (n + 1)) i (sym next_bit ∙ w),
        )

  module _ (e : f ≡ 0 → ⊥) where
    -- found: the next number is its own
    pub data_found : {n : ℕ} → NoneUpTo here n → n < 15 → here (n + 1) ≡ true → n + 1 ≡ data_number f i
    unfolding data_number
    data_found p h w = rw (ne_eqb f 0 e) (none_found here 15 p h w)

    -- none of the fifteen: it has none
    pub data_none : {n : ℕ} → NoneUpTo here n → 15 ≤ n → 0 ≡ data_number f i
    unfolding data_number
    data_none p h = rw (ne_eqb f 0 e) (none_at_all here 15 p h)

-- What the definitions of specs/ say, for whoever cites the contracts: the table, the order mark, the averages.
-- Assumes nothing.
use mathlib.Core.Path.{◌≡◌, ◌∙◌, refl, ap}
use mathlib.Core.List.{List, [], ◌∷◌}
use Prim.Native.Nat.{ℕ, ◌+◌, ◌*◌, ◌-◌, ◌^◌, ◌<◌, ◌≤◌}
use native.Mathlib.Omega.{arith}
use native.Mathlib.Decide.{dec_lt}
use lib.Dec.{eqb, eqb→eq}
use lib.ListN.{length, get_or}
use borrow.Author.Tests.{ltb-true, ltb-false, lt-ltb, le-ltb, leb-true, leb-false, le-leb, lt-leb, eq-eqb, ne_eqb}
use Rattle.laws.specs.Tabulate.{tabulate, tabulate_from}
use Rattle.laws.proofs.Table.{at}
use Rattle.laws.proofs.Tabulate.{get_d_tabulate}
use Rattle.laws.proofs.Cases.{of_four}
use Rattle.laws.proofs.Lowest.{lowest_at, lowest_none, lowest_zero, lowest_found}
use Rattle.std.specs.Prelude.{Result, Ok, Err}
use Rattle.std.specs.Result.{result_unwrap_or}
use Rattle.lsp.specs.Table.{bits, hz_table, column, hz_of, lsp, over_in, too_large_field, hz_at, hertz_of, hz_in}
use Rattle.lsp.specs.declared.Refusal.{Refusal}
use Rattle.lsp.specs.declared.Refusal.TheVariants.{TooLarge}
use Rattle.lsp.specs.Order.{falls, mark_of, InOrder}
use Rattle.lsp.specs.Average.{average_of, average_at, averages_of}
use Rattle.lsp.proofs.Weights.{eighths, eighths_at}

-- ---- the order mark

-- a mark of 0 says that all neighbours are in order, and the other way round
pub mark_in_order : (hz : List ℕ) → mark_of hz ≡ 0 → InOrder hz
unfolding mark_of
mark_in_order hz e j a b = ltb-false _ _ (lowest_zero (falls hz) 9 e j a b)

-- parameters in order have the mark 0
pub in_order_mark : (hz : List ℕ) → InOrder hz → mark_of hz ≡ 0
unfolding mark_of
in_order_mark hz o = lowest_none (falls hz) 9 (λ j a b. le-ltb _ _ (o j a b))

-- any other mark is the lowest j for which LSP j+1 is below LSP j, and the other way round
pub mark_falls : (hz : List ℕ) (j : ℕ) → mark_of hz ≡ j → 1 ≤ j
    → (j ≤ 9) × (lsp hz (j + 1) < lsp hz j) × ((m : ℕ) → 1 ≤ m → m < j → lsp hz m ≤ lsp hz (m + 1))
unfolding mark_of
mark_falls hz j e q =
    let r = lowest_found (falls hz) 9 j e q in
    (r.0, ltb-true _ _ r.1, λ m a b. ltb-false _ _ (r.2 m a b))

-- the lowest j at which the parameters fall is the mark
pub falls_mark : (hz : List ℕ) (j : ℕ) → 1 ≤ j → j ≤ 9 → lsp hz (j + 1) < lsp hz j
    → ((m : ℕ) → 1 ≤ m → m < j → lsp hz m ≤ lsp hz (m + 1)) → mark_of hz ≡ j
unfolding mark_of
falls_mark hz j a b f none = lowest_at (falls hz) 9 j a b (λ m p q. le-ltb _ _ (none m p q)) (lt-ltb _ _ f)

-- no mark is over 9
pub mark_most : (hz : List ℕ) → mark_of hz ≤ 9
mark_most hz = go (dec_lt 0 (mark_of hz))
  where
    go : Dec (0 < mark_of hz) → mark_of hz ≤ 9
    go (yes h) = (mark_falls hz (mark_of hz) refl h).0
    go (no h) = omega arith

-- ---- the averages

-- of a value with itself it is eight times that
pub average_same : (n a : ℕ) → 1 ≤ n → n ≤ 4 → average_of n a a ≡ 8 * a
average_same n a p q =
    of_four (λ m. average_of m a a ≡ 8 * a) n p q (omega arith) (omega arith) (omega arith) (omega arith)

module _ (previous present : List ℕ) where
  -- at place 10(n-1) + (j-1) stands LSP j in subframe n
  pub averages_at : (n j : ℕ) → 1 ≤ n → n ≤ 4 → 1 ≤ j → j ≤ 10
      → get_or (averages_of previous present) (10 * (n - 1) + (j - 1)) 0 ≡ average_at previous present n j
  unfolding averages_of
  averages_at n j a b c d =
      let e : n - 1 + 1 ≡ n = omega arith in
      get_d_tabulate (eighths previous present) 0 40 (10 * (n - 1) + (j - 1)) (omega arith)
      ∙ eighths_at previous present (n - 1) (j - 1) (10 * (n - 1) + (j - 1)) (omega arith) refl
      ∙ ap (λ (m : ℕ). average_of m (lsp previous j) (lsp present j)) e

-- where the previous values are the present ones, each average is eight times the value
pub averages_same : (hz : List ℕ) (n j : ℕ) → 1 ≤ n → n ≤ 4 → 1 ≤ j → j ≤ 10
    → get_or (averages_of hz hz) (10 * (n - 1) + (j - 1)) 0 ≡ 8 * lsp hz j
averages_same hz n j a b c d = averages_at hz hz n j a b c d ∙ average_same n (lsp hz j) a b

-- ---- the table

module _ (j : ℕ) (a : 1 ≤ j) (b : j ≤ 10) where
  -- a column has an entry for each index of its bits
  pub column_long : length (column j) ≡ 2 ^ lsp bits j
  unfolding hz_table
  column_long = eqb→eq _ _ (at [] (λ k c. eqb (length c) (2 ^ get_or bits k 0)) hz_table tt (j - 1) (omega arith))

-- ---- ten indices in Hz

module _ (indices : List ℕ) where
  -- every index fits its bits
  abbrev pub Fit : Type 0
  Fit = (j : ℕ) → 1 ≤ j → j ≤ 10 → lsp indices j < 2 ^ lsp bits j

  -- 0 says that every index fits, and the other way round
  pub none_too_large : too_large_field indices ≡ 0 → Fit
  unfolding too_large_field
  none_too_large e j a b = leb-false _ _ (lowest_zero (over_in indices) 10 e j a b)

  -- where every index fits the answer is 0
  pub all_fit : Fit → too_large_field indices ≡ 0
  unfolding too_large_field
  all_fit f = lowest_none (over_in indices) 10 (λ j a b. lt-leb _ _ (f j a b))

  -- any other number is the lowest LSP whose index does not fit, and the other way round
  pub lowest_too_large : (j : ℕ) → too_large_field indices ≡ j → 1 ≤ j
      → (j ≤ 10) × (2 ^ lsp bits j ≤ lsp indices j) × ((m : ℕ) → 1 ≤ m → m < j → lsp indices m < 2 ^ lsp bits m)
  unfolding too_large_field
  lowest_too_large j e a =
      let f = lowest_found (over_in indices) 10 j e a in
      (f.0, leb-true _ _ f.1, λ m b c. leb-false _ _ (f.2 m b c))

  -- the lowest LSP whose index does not fit is the answer
  pub too_large_at : (j : ℕ) → 1 ≤ j → j ≤ 10 → 2 ^ lsp bits j ≤ lsp indices j
      → ((m : ℕ) → 1 ≤ m → m < j → lsp indices m < 2 ^ lsp bits m) → too_large_field indices ≡ j
  unfolding too_large_field
  too_large_at j a b here lower =
      lowest_at (over_in indices) 10 j a b (λ m p q. lt-leb _ _ (lower m p q)) (le-leb _ _ here)

  -- where every index fits, the ten are in Hz
  pub hertz_given : too_large_field indices ≡ 0
      → hertz_of indices ≡ Ok (tabulate (hz_at indices) 10)
  unfolding hertz_of
  hertz_given e = rw (eq-eqb (too_large_field indices) 0 e)

  -- where one does not, it is refused
  pub hertz_refused : 1 ≤ too_large_field indices
      → hertz_of indices ≡ Err (TooLarge (too_large_field indices))
  unfolding hertz_of
  hertz_refused h = rw (ne_eqb (too_large_field indices) 0 (λ z. omega arith))

  -- LSP j is the entry of its column at its index
  pub hertz_at : too_large_field indices ≡ 0 → (j : ℕ) → 1 ≤ j → j ≤ 10 → lsp (hz_in (hertz_of indices)) j ≡ hz_of j (lsp indices j)
  hertz_at e j a b =
      let m : j - 1 + 1 ≡ j = omega arith in
      ap (λ (h : Result (List ℕ) Refusal). lsp (hz_in h) j) (hertz_given e) ∙ get_d_tabulate (hz_at indices) 0 10 (j - 1) (omega arith)
      ∙ ap (λ (n : ℕ). hz_of n (lsp indices n)) m

-- the Hz that are answered, or ten zeros
pub hz_or_none : (m : Result (List ℕ) Refusal)
    → result_unwrap_or m (0 ∷ 0 ∷ 0 ∷ 0 ∷ 0 ∷ 0 ∷ 0 ∷ 0 ∷ 0 ∷ 0 ∷ []) ≡ hz_in m
unfolding tabulate_from
hz_or_none (Ok hz) = refl
hz_or_none (Err e) = refl

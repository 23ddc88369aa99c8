-- The table of 3.7.2 in code and in specs: what one computed test of each tells of every entry.
-- Assumes nothing.
use mathlib.Core.Path.{◌≡◌, ◌∙◌, sym, refl, ap}
use mathlib.Core.Bool.{Bool, false}
use mathlib.Core.List.{List}
use Prim.Native.Nat.{ℕ, ◌+◌, ◌*◌, ◌/◌, ◌%◌, ◌^◌, ◌<◌, ◌≤◌}
use native.Mathlib.Omega.{arith}
use native.Mathlib.Nat.{add-sub_cancel}
use lib.Dec.{T, leb, eqb, leb→le, eqb→eq}
use lib.ListN.{length, get_or, set}
use lib.Pow.{pow_mono}
use borrow.Author.Tests.{leb-false}
use Rattle.std.specs.Prelude.{Err}
use Rattle.laws.specs.Table.{every}
use Rattle.laws.proofs.Table.{at, both_left, both_right}
use Rattle.laws.proofs.Lowest.{NoneUpTo, none_at_all, lowest_zero}
use Rattle.laws.proofs.Wide.{wide_next}
use Rattle.laws.proofs.Filled.{Filled, filled_more}
use Rattle.lsp.specs.Table.{bits, column, entry_printed, as_printed, over_in, too_large_field, hz_at, hertz_of}
use Rattle.lsp.specs.declared.Refusal.TheVariants.{TooLarge}
use Rattle.lsp.proofs.Laws.{hertz_refused}

-- the entry at row k for LSP i+1
pub entry : (rows : List ℕ) → T (as_printed rows) → (i k : ℕ) → i < 10 → k < 16
    → get_or rows (10 * k + i) 0 ≡ get_or (column (i + 1)) k 0
entry rows printed i k h g =
    let all : length rows ≡ 160 = eqb→eq _ _ (both_left (eqb (length rows) 160) (every entry_printed 0 rows) printed) in
    let t : T (entry_printed (10 * k + i) (get_or rows (10 * k + i) 0))
    = at 0 entry_printed rows (both_right (eqb (length rows) 160) (every entry_printed 0 rows) printed) (10 * k + i)
    (omega arith) in
    let q : (10 * k + i) / 10 ≡ k = omega arith in
    let r : (10 * k + i) % 10 ≡ i = omega arith in
    eqb→eq _ _ t ∙ rw (q, r) refl

-- no index has more than 4 bits
abbrev at_most_four : ℕ → ℕ → Bool
at_most_four k w = leb w 4

-- so of each of the ten
bits_most : (i : ℕ) → i < 10 → get_or bits i 0 ≤ 4
bits_most i h = leb→le (get_or bits i 0) 4 (at 0 at_most_four bits tt i h)

-- an index that fits its bits is one of the sixteen rows
fits_row : (i x : ℕ) → i < 10 → leb (2 ^ get_or bits i 0) x ≡ false → x < 16
fits_row i x h e =
    let p : 2 ^ get_or bits i 0 ≤ 2 ^ 4 = pow_mono (bits_most i h) in
    omega (arith, leb-false (2 ^ get_or bits i 0) x e)

-- place i of bits and indices is that of LSP i + 1
over_here : (indices : List ℕ) (i : ℕ) → over_in indices (i + 1) ≡ leb (2 ^ get_or bits i 0) (get_or indices i 0)
over_here indices i = rw (add-sub_cancel i 1) refl

-- so where none is too large, each is one of the rows
pub row_small : (indices : List ℕ) (i : ℕ) → too_large_field indices ≡ 0 → i < 10 → get_or indices i 0 < 16
unfolding too_large_field
row_small indices i e h =
    fits_row i (get_or indices i 0) h
    (sym (over_here indices i) ∙ lowest_zero (over_in indices) 10 e (i + 1) (omega arith) (omega arith))

-- the loop of `in_hertz`: the bits are as printed, and the first i indices fit
pub record Fitting (widths indices : List ℕ) (i : ℕ) : Type 0 where
  pub held : widths ≡ bits
  pub fit : NoneUpTo (over_in indices) i

module _ {widths indices : List ℕ} {i : ℕ} (s : Fitting widths indices i) where
  -- one of which something is left is the lowest that is too large
  pub wide_found : i < 10 → (get_or indices i 0 / 2 ^ get_or widths i 0 ≡ 0 → ⊥) → Err (TooLarge (i + 1)) ≡ hertz_of indices
  unfolding too_large_field
  wide_found h e =
      let is : i + 1 ≡ too_large_field indices =
      wide_next (over_in indices) (get_or indices i 0) (get_or bits i 0) (over_here indices i) s.fit 10 h
      (rw s.held at e) in
      ap (λ (j : ℕ). Err (TooLarge j)) is ∙ sym (hertz_refused indices (omega arith))

  -- after ten none is
  pub all_fitting : 10 ≤ i → too_large_field indices ≡ 0
  unfolding too_large_field
  all_fitting h = sym (none_at_all (over_in indices) 10 s.fit h)

-- the loop of `looked_up`: with the entry at its index one place more holds Hz
pub one_looked : (rows indices : List ℕ) {i : ℕ} {hz : List ℕ} → T (as_printed rows) → too_large_field indices ≡ 0
    → Filled 0 (hz_at indices) 10 i hz → i < 10
    → Filled 0 (hz_at indices) 10 (i + 1) (set hz i (get_or rows (10 * get_or indices i 0 + i) 0))
one_looked rows indices {i} {hz} printed e s h =
    let v : get_or rows (10 * get_or indices i 0 + i) 0 ≡ hz_at indices i =
    entry rows printed i (get_or indices i 0) h (row_small indices i e h) ∙ rw (add-sub_cancel i 1) refl in
    filled_more 0 (hz_at indices) 10 i hz _ s h v

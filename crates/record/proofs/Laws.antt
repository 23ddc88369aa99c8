-- What `too_large_field` says of a record: 0 exactly when every index fits its field; else a field whose index does not, and
-- every lower one does.
-- And what stands in which field, and which field such a number names.
-- Assumes nothing.
use mathlib.Core.Path.{◌≡◌, ◌∙◌, sym, refl, ap}
use Rattle.std.specs.Prelude.{None, Some}
use Prim.Native.Nat.{ℕ, zero, suc, ◌+◌, ◌-◌, ◌^◌, ◌<◌, ◌≤◌}
use native.Mathlib.Omega.{arith}
use native.Mathlib.Nat.{add-sub_cancel}
use native.Mathlib.Decide.{ℕ_discrete, dec_le}
use lib.ListN.{length, get_or}
use Rattle.laws.specs.Tabulate.{tabulate}
use Rattle.laws.proofs.Tabulate.{length_tabulate, get_d_tabulate, tabulate_is}
use borrow.Author.Tests.{leb-true, leb-false, le-leb, lt-leb}
use Rattle.laws.proofs.Lowest.{lowest_zero, lowest_found, lowest_none, lowest_at}
use Rattle.record.specs.Fields.{over, too_large_field, index_of, indices_of, record_with, width_of, field_named}
use Rattle.record.specs.declared.Record.{Record}

module _ (r : Record) where
  -- every index fits its field
  abbrev pub Fit : Type 0
  Fit = (i : ℕ) → 1 ≤ i → i ≤ 28 → index_of r i < 2 ^ width_of i

  -- an answer of 0 says that every index fits
  pub none_too_large : too_large_field r ≡ 0 → Fit
  unfolding too_large_field
  none_too_large e i a b = leb-false (2 ^ width_of i) (index_of r i) (lowest_zero (over r) 28 e i a b)

  -- and where every index fits the answer is 0
  pub all_fit_none_too_large : Fit → too_large_field r ≡ 0
  unfolding too_large_field
  all_fit_none_too_large f = lowest_none (over r) 28 (λ i a b. lt-leb (2 ^ width_of i) (index_of r i) (f i a b))

  -- any other answer is a field whose index does not fit, and every lower one does
  pub lowest_too_large : (j : ℕ) → too_large_field r ≡ j → 1 ≤ j
      → (j ≤ 28) × (2 ^ width_of j ≤ index_of r j) × ((i : ℕ) → 1 ≤ i → i < j → index_of r i < 2 ^ width_of i)
  unfolding too_large_field
  lowest_too_large j e a =
      let f = lowest_found (over r) 28 j e a in (
        f.0,
        leb-true (2 ^ width_of j) (index_of r j) f.1,
        λ i b c. leb-false (2 ^ width_of i) (index_of r i) (f.2 i b c),
      )

  -- and such a field is the answer
  pub too_large_at : (j : ℕ) → 1 ≤ j → j ≤ 28 → 2 ^ width_of j ≤ index_of r j
      → ((i : ℕ) → 1 ≤ i → i < j → index_of r i < 2 ^ width_of i) → too_large_field r ≡ j
  unfolding too_large_field
  too_large_at j a b here lower =
      lowest_at (over r) 28 j a b (λ i p q. lt-leb (2 ^ width_of i) (index_of r i) (lower i p q))
      (le-leb (2 ^ width_of j) (index_of r j) here)

  -- what stands in a field, by the list that holds it
  pub index_parameter : (k : ℕ) → k < 10 → index_of r (k + 1) ≡ get_or r.lsp k 0
  index_parameter k h = rw (le-leb (k + 1) 10 (omega arith)) (ap (λ (n : ℕ). get_or r.lsp n 0) (add-sub_cancel k 1))

  -- the sixteen subframe indices stand in fields 11 to 26
  pub index_subframe : (k : ℕ) → k < 16 → index_of r (k + 11) ≡ get_or r.subframes k 0
  index_subframe k h =
      rw (lt-leb (k + 11) 10 (omega arith), le-leb (k + 11) 26 (omega arith))
      (ap (λ (n : ℕ). get_or r.subframes n 0) (add-sub_cancel k 11))

  -- there are 28 indices
  pub indices_long : length (indices_of r) ≡ 28
  unfolding indices_of
  indices_long = length_tabulate (λ k. index_of r (k + 1)) 28

  -- place k of the list of them all is field k + 1
  pub index_listed : (k : ℕ) → k < 28 → get_or (indices_of r) k 0 ≡ index_of r (k + 1)
  unfolding indices_of
  index_listed k h = get_d_tabulate (λ k. index_of r (k + 1)) 0 28 k h

-- field f of the record whose fields hold v holds v f
pub index_given : (v : ℕ → ℕ) (f : ℕ) → 1 ≤ f → f ≤ 28 → index_of (record_with v) f ≡ v f
index_given v f a b = parameter (dec_le f 10)
  where
    last : Dec (f ≡ 27) → 26 < f → index_of (record_with v) f ≡ v f
    last (yes e) h = rw e
    last (no e) h = let w : f ≡ 28 = omega arith in rw w

    subframe : Dec (f ≤ 26) → 10 < f → index_of (record_with v) f ≡ v f
    subframe (yes q) h =
        let back : f - 11 + 11 ≡ f = omega arith in
        ap (index_of (record_with v)) (sym back) ∙ index_subframe (record_with v) (f - 11) (omega arith)
        ∙ get_d_tabulate (λ k. v (k + 11)) 0 16 (f - 11) (omega arith) ∙ ap v back
    subframe (no q) h = last (ℕ_discrete f 27) (omega arith)

    parameter : Dec (f ≤ 10) → index_of (record_with v) f ≡ v f
    parameter (yes q) =
        let back : f - 1 + 1 ≡ f = omega arith in
        ap (index_of (record_with v)) (sym back) ∙ index_parameter (record_with v) (f - 1) (omega arith)
        ∙ get_d_tabulate (λ k. v (k + 1)) 0 10 (f - 1) (omega arith) ∙ ap v back
    parameter (no q) = subframe (dec_le f 26) (omega arith)

-- a record is known by what stands in its fields
pub record_is : (r : Record) (v : ℕ → ℕ) → length r.lsp ≡ 10 → length r.subframes ≡ 16
    → ((f : ℕ) → 1 ≤ f → f ≤ 28 → v f ≡ index_of r f) → record_with v ≡ r
record_is r v ten sixteen same =
    λ i. record {
      lsp = parameters i;
      subframes = indices i;
      sp = same 27 (omega arith) (omega arith) i;
      sy = same 28 (omega arith) (omega arith) i;
    }
  where
    parameters : tabulate (λ k. v (k + 1)) 10 ≡ r.lsp
    parameters =
        tabulate_is (λ k. v (k + 1)) 0 r.lsp 10 ten
        (λ k l. same (k + 1) (omega arith) (omega arith) ∙ index_parameter r k l)

    indices : tabulate (λ k. v (k + 11)) 16 ≡ r.subframes
    indices =
        tabulate_is (λ k. v (k + 11)) 0 r.subframes 16 sixteen
        (λ k l. same (k + 11) (omega arith) (omega arith) ∙ index_subframe r k l)

-- a number over 0 names its field, and 0 none
pub names_field : {n : ℕ} (f : ℕ) → f ≡ n → 1 ≤ f → Some f ≡ field_named n
names_field {n = zero} f e h = absurd (omega arith)
names_field {n = suc n} f e h = ap Some e

pub names_none : {n : ℕ} → 0 ≡ n → None ≡ field_named n
names_none e = ap field_named e

-- for who asked: the number is that of the field
pub field_is : {n f : ℕ} → Some f ≡ field_named n → (n ≡ f) × (n ≡ 0 → ⊥)
field_is {n = zero} {f} e = absurd (cc)
field_is {n = suc n} {f} e = let s : f ≡ suc n = cc in (sym s, λ z. omega arith)

-- or 0
pub none_is : {n : ℕ} → None ≡ field_named n → n ≡ 0
none_is {n = zero} e = refl
none_is {n = suc n} e = absurd (cc)

-- The loop of `too_large` over the fields: what it knows, and what each return answers.
-- Assumes nothing.
use mathlib.Core.Path.{◌≡◌, ◌∙◌, refl, ap}
use mathlib.Core.Bool.{Bool}
use mathlib.Core.List.{List}
use Prim.Native.Nat.{ℕ, ◌+◌, ◌-◌, ◌/◌, ◌^◌, ◌<◌, ◌≤◌}
use native.Mathlib.Omega.{arith}
use native.Mathlib.Nat.{add-sub_cancel}
use lib.Dec.{leb, ltb, ltb→lt}
use lib.ListN.{get_or}
use Rattle.laws.specs.Lowest.{lowest}
use Rattle.laws.proofs.Table.{at}
use Rattle.laws.proofs.Lowest.{NoneUpTo, none_yet, none_at_all, lowest_same}
use Rattle.laws.proofs.Wide.{wide_next}
use Rattle.record.specs.Fields.{widths, width_of, index_of, indices_of, over, too_large_field}
use Rattle.record.specs.declared.Record.{Record}
use Rattle.record.proofs.Laws.{index_listed}

-- every width is below 16, so that a shift by it leaves room
abbrev below_16 : ℕ → ℕ → Bool
below_16 k w = ltb w 16

-- so at each of the 28 places
widths_small : (i : ℕ) → i < 28 → get_or widths i 0 < 16
widths_small i h = ltb→lt (get_or widths i 0) 16 (at 0 below_16 widths tt i h)

-- in a list of indices by field, that of field i does not fit its width
abbrev pub over_by : List ℕ → ℕ → Bool
over_by indices i = leb (2 ^ width_of i) (get_or indices (i - 1) 0)

-- the lowest such field of a record's own list is the record's
module _ (r : Record) {indices : List ℕ} (e : indices ≡ indices_of r) where
  -- what is over in the list is over in the record
  same_over : (m : ℕ) → 1 ≤ m → m ≤ 28 → over_by indices m ≡ over r m
  same_over m a b =
      let back : m - 1 + 1 ≡ m = omega arith in
      ap (leb (2 ^ width_of m))
      (ap (λ (l : List ℕ). get_or l (m - 1) 0) e ∙ index_listed r (m - 1) (omega arith) ∙ ap (index_of r) back)

  -- so the lowest of the list is the lowest of the record
  pub as_record : {n : ℕ} → n ≡ lowest (over_by indices) 28 → n ≡ too_large_field r
  unfolding too_large_field
  as_record w = w ∙ lowest_same (over_by indices) (over r) 28 same_over

-- the loop: the widths are those of the fields, and no index of the first i fields is too large
pub record Passed (indices ws : List ℕ) (i : ℕ) : Type 0 where
  pub wide : ws ≡ widths
  pub fit : NoneUpTo (over_by indices) i

-- before the first turn no field is passed
pub none_passed : (indices : List ℕ) → Passed indices widths 0
none_passed indices = record { wide = refl; fit = none_yet (over_by indices) }

module _ {indices ws : List ℕ} {i : ℕ} (s : Passed indices ws i) where
  -- the shift of a turn is by less than sixteen bits
  pub shift_small : i < 28 → get_or ws i 0 < 16
  shift_small h = rw s.wide (widths_small i h)

  -- place i of both lists is that of field i + 1
  over_here : over_by indices (i + 1) ≡ leb (2 ^ get_or ws i 0) (get_or indices i 0)
  over_here = rw (add-sub_cancel i 1, s.wide) refl

  -- the lowest field whose index does not
  pub found_here : i < 28 → (get_or indices i 0 / 2 ^ get_or ws i 0 ≡ 0 → ⊥) → i + 1 ≡ lowest (over_by indices) 28
  found_here h e = wide_next (over_by indices) (get_or indices i 0) (get_or ws i 0) over_here s.fit 28 h e

  -- and none
  pub none_found_here : 28 ≤ i → 0 ≡ lowest (over_by indices) 28
  none_found_here h = none_at_all (over_by indices) 28 s.fit h

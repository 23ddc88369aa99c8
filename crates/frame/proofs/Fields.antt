-- Every bit of every field, and every parity bit, has exactly one place; so an index read has the bits at its places.
-- Assumes nothing.
use mathlib.Core.Path.{◌≡◌, sym, subst}
use mathlib.Core.Bool.{Bool}
use Prim.Native.Nat.{ℕ, zero, suc, ◌^◌, ◌<◌, ◌≤◌}
use native.Mathlib.Omega.{arith}
use native.Mathlib.Numerals.{sub-one}
use lib.Dec.{T, eqb, eqb→eq}
use lib.ListN.{get_or}
use Rattle.laws.specs.Table.{every, all_below}
use Rattle.laws.specs.Total.{bit, from_bits}
use Rattle.laws.proofs.Table.{at, below}
use Rattle.laws.proofs.Bits.{from_bits_lt, bit_from_bits}
use Rattle.laws.proofs.Collected.{Scattered, collected}
use Rattle.frame.specs.Places.{Name, places, field_of, bit_of, field_at, bit_in, bits_in, seek, place_of}
use Rattle.frame.specs.Places.Name.{HP}
use Rattle.frame.specs.Frame.{index_in}
use Rattle.frame.proofs.Places.{placed, placed_told, length_places, field_below, bit_in_field}

-- the test at one place: its bit has no earlier place
here_first : ℕ → Name → Bool
here_first k x = eqb (place_of (field_of x) (bit_of x)) (suc k)

-- it passes at every place
all_first : T (every here_first 0 places)
unfolding here_first places seek
all_first = tt

-- the test at one bit of one field: it has a place
found_at : ℕ → ℕ → ℕ → Bool
found_at f i p = placed p (field_at p) f (bit_in p) i

-- the test at all bits of one field
found : ℕ → Bool
found f = all_below (bits_in f) (λ (i : ℕ). found_at f i (place_of f i))

-- it passes at every field
all_found : T (all_below 29 found)
unfolding found found_at places seek
all_found = tt

-- the place of a bit of a field
module _ (f i : ℕ) (h : f < 29) (l : i < bits_in f) where
  -- it stands at one of the 144, in that field, as that bit
  told : (1 ≤ place_of f i) × (place_of f i ≤ 144) × (field_at (place_of f i) ≡ f) × (bit_in (place_of f i) ≡ i)
  unfolding found found_at
  told =
      placed_told (place_of f i) (field_at (place_of f i)) f (bit_in (place_of f i)) i
      (below (λ (i : ℕ). found_at f i (place_of f i)) (bits_in f) (below found 29 all_found f h) i l)

  -- its place is 1 or more
  pub place_first : 1 ≤ place_of f i
  place_first = told.0

  -- and at most 144
  pub place_last : place_of f i ≤ 144
  place_last = told.1

  -- the field that stands at its place is f
  pub field_of_place : field_at (place_of f i) ≡ f
  field_of_place = told.2

  -- and the bit there is i
  pub bit_of_place : bit_in (place_of f i) ≡ i
  bit_of_place = told.3

-- and of each place the bit that stands there
pub field_small : (p : ℕ) → 1 ≤ p → p ≤ 144 → field_at p < 29
field_small zero a h = absurd (omega arith)
field_small (suc k) a h = rw (sub-one (suc k)) (field_below k h)

-- it is one of the bits of its field
pub bit_small : (p : ℕ) → 1 ≤ p → p ≤ 144 → bit_in p < bits_in (field_at p)
bit_small zero a h = absurd (omega arith)
bit_small (suc k) a h = rw (sub-one (suc k)) (bit_in_field k h)

-- and the place of that bit is the place itself
pub place_of_here : (p : ℕ) → 1 ≤ p → p ≤ 144 → place_of (field_at p) (bit_in p) ≡ p
unfolding here_first
place_of_here zero a h = absurd (omega arith)
place_of_here (suc k) a h =
    rw (sub-one (suc k))
    (eqb→eq (place_of (field_of (get_or places k (HP 0))) (bit_of (get_or places k (HP 0)))) (suc k)
    (at (HP 0) here_first places all_first k (subst (λ (n : ℕ). k < n) (sym length_places) h)))

-- so the bits of a field are scattered over its places, each once
pub scattered : (f : ℕ) → f < 29 → Scattered 144 field_at bit_in f (bits_in f) (place_of f)
scattered f h =
    record {
      first = λ i l. place_first f i h l;
      last = λ i l. place_last f i h l;
      owned = λ i l. field_of_place f i h l;
      ranked = λ i l. bit_of_place f i h l;
      below = λ q a l e. subst (λ (g : ℕ). bit_in q < bits_in g) e (bit_small q a l);
      only = λ q a l e. subst (λ (g : ℕ). place_of g (bit_in q) ≡ q) e (place_of_here q a l);
    }

-- an index read is the number with the bits at the field's places
module _ (b : ℕ → ℕ) (f : ℕ) (h : f < 29) where
  -- the index in a field is the number with the bits at the field's places
  pub index_collected : index_in b f ≡ from_bits (λ i. b (place_of f i)) (bits_in f)
  unfolding index_in
  index_collected = collected (scattered f h) b

  -- it has no more bits than the field
  pub index_small : ((p : ℕ) → b p < 2) → index_in b f < 2 ^ bits_in f
  index_small bits = rw index_collected (from_bits_lt (λ i. b (place_of f i)) (bits_in f) (λ i l. bits (place_of f i)))

  -- and its bit i is the bit at the place of bit i
  pub index_bit : ((p : ℕ) → b p < 2) → (i : ℕ) → i < bits_in f → bit (index_in b f) i ≡ b (place_of f i)
  index_bit bits i l =
      rw index_collected (bit_from_bits (λ i. b (place_of f i)) (bits_in f) i (λ k m. bits (place_of f k)) l)

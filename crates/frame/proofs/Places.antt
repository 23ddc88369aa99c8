-- Facts of the table of 3.8.2, each one computed test over all of its places.
-- Assumes nothing.
use mathlib.Core.Path.{◌≡◌, ◌∙◌, sym, refl, ap, subst}
use mathlib.Core.Bool.{Bool}
use Prim.Native.Nat.{ℕ, ◌+◌, ◌-◌, ◌*◌, ◌/◌, ◌%◌, ◌<◌, ◌≤◌}
use native.Mathlib.Omega.{arith}
use lib.Dec.{T, leb, leb→le, ltb, ltb→lt, eqb, eqb→eq}
use lib.ListN.{length, get_or, get_or-map}
use Rattle.laws.specs.Table.{both, every}
use Rattle.laws.proofs.Table.{at, each_of_four}
use Rattle.frame.specs.Places.{Name, places, field_of, bit_of, field_at, bit_in, bits_in}
use Rattle.frame.specs.Places.Name.{HP}
use Rattle.frame.specs.Steps.{entry_of, entries}

-- the test whether p is one of the 144 places and two numbers of it are these
abbrev pub placed : ℕ → ℕ → ℕ → ℕ → ℕ → Bool
placed p x f y i = both (leb 1 p) (both (leb p 144) (both (eqb x f) (eqb y i)))

-- and what it tells
pub placed_told : (p x f y i : ℕ) → T (placed p x f y i) → (1 ≤ p) × (p ≤ 144) × (x ≡ f) × (y ≡ i)
placed_told p x f y i h =
    let t = each_of_four (leb 1 p) (leb p 144) (eqb x f) (eqb y i) h in
    (leb→le 1 p t.0, leb→le p 144 t.1, eqb→eq x f t.2, eqb→eq y i t.3)

-- there are 144 of them
pub length_places : length places ≡ 144
unfolding places
length_places = refl

-- what one number of each name is below, by a test over all of them
below_everywhere : (m n : Name → ℕ) → T (every (λ (k : ℕ) (x : Name). ltb (m x) (n x)) 0 places)
    → (k : ℕ) → k < 144 → m (get_or places k (HP 0)) < n (get_or places k (HP 0))
below_everywhere m n t k h =
    ltb→lt (m (get_or places k (HP 0))) (n (get_or places k (HP 0)))
    (at (HP 0) (λ (k : ℕ) (x : Name). ltb (m x) (n x)) places t k (subst (λ (l : ℕ). k < l) (sym length_places) h))

-- each belongs to one of the 29
pub field_below : (k : ℕ) → k < 144 → field_of (get_or places k (HP 0)) < 29
unfolding places
field_below = below_everywhere field_of (λ x. 29) tt

-- and is one of its bits
pub bit_in_field : (k : ℕ) → k < 144 → bit_of (get_or places k (HP 0)) < bits_in (field_of (get_or places k (HP 0)))
unfolding places
bit_in_field = below_everywhere bit_of (λ x. bits_in (field_of x)) tt

-- of which there are at most nine
pub bit_below : (k : ℕ) → k < 144 → bit_of (get_or places k (HP 0)) < 9
unfolding places
bit_below = below_everywhere bit_of (λ x. 9) tt

-- the place after the k-th
pub next : (k : ℕ) → k + 1 - 1 ≡ k
next k = omega arith

-- an entry of the code's table taken apart
module _ (k : ℕ) (h : k < 144) where
  -- it is the field above the bit
  entry : get_or entries k 0 ≡ 16 * field_at (k + 1) + bit_in (k + 1)
  unfolding entries
  entry = get_or-map entry_of places k (HP 0) ∙ ap (λ (n : ℕ). entry_of (get_or places n (HP 0))) (sym (next k))

  -- the bit is below nine
  bit_small : bit_in (k + 1) < 9
  bit_small = subst (λ (n : ℕ). bit_of (get_or places n (HP 0)) < 9) (sym (next k)) (bit_below k h)

  -- so its upper digits are the field
  pub entry_field : get_or entries k 0 / 16 ≡ field_at (k + 1)
  entry_field = let e = entry in let b = bit_small in omega (arith, e, b)

  -- and its last digit is the bit
  pub entry_bit : get_or entries k 0 % 16 ≡ bit_in (k + 1)
  entry_bit = let e = entry in let b = bit_small in omega (arith, e, b)

-- there are 144 entries
pub length_entries : length entries ≡ 144
unfolding entries places
length_entries = refl

-- What holds of every element of the excitation (document 02, K6).
use Rattle.std.specs.Prelude.{◌≡◌, ◌↔◌, ℕ, ◌*◌, ◌<◌, ◌≤◌, ◌^◌, ℤ, pos, ◌*ℤ◌, ◌-ℤ◌, nat_abs}
use Rattle.mixing.specs.Mixing.{sum_of, signed_as, rounded_by, held_of, element_of}

-- how many thousandths a whole number is from so many thousandths
abbrev pub distance : ℤ → ℤ → ℕ
distance whole sum = nat_abs (pos 1000 *ℤ whole -ℤ sum)

-- "rounded once to nearest with halves away from zero": twice the distance is at most one, and where it is one, the
-- whole number is the one farther from zero
pub record Nearest (sum whole : ℤ) : Type 0 where
  pub near : 2 * distance whole sum ≤ 1000
  pub away : 2 * distance whole sum ≡ 1000 → nat_abs sum < 1000 * nat_abs whole

-- the rounding of a sum of thousandths is that, and nothing else is
unfoldable pub RoundedOnce : Type 0
RoundedOnce = (sum whole : ℤ) → (rounded_by 1000 sum ≡ whole) ↔ Nearest sum whole

-- "then held within plus or minus 1,000,000": a number inside the ends stays, one outside becomes the end of its sign
unfoldable pub HeldAtTheEnds : Type 0
HeldAtTheEnds =
    (z : ℤ)
    → (nat_abs (held_of z) ≤ 1000000)
    × (nat_abs z ≤ 1000000 → held_of z ≡ z)
    × (1000000 < nat_abs z → held_of z ≡ signed_as z 1000000)

-- "the exact sum of CG times the ternary element and a thousandth of PG times the adaptive element, the sum rounded
-- once to nearest with halves away from zero, then held": of the whole number nearest to the sum
unfoldable pub ElementIs : Type 0
ElementIs =
    (cg ternary pg adaptive whole : ℤ) → Nearest (sum_of cg ternary pg adaptive) whole
    → element_of cg ternary pg adaptive ≡ held_of whole

-- where the adaptive element is 0 the element is CG times the ternary element, held
unfoldable pub CodeAlone : Type 0
CodeAlone = (cg ternary pg : ℤ) → element_of cg ternary pg (pos 0) ≡ held_of (cg *ℤ ternary)

-- no product and no sum on the way has more than 63 bits, whatever 32 bits the gains and the adaptive element are, and
-- whatever eight bits the ternary one
unfoldable pub NothingOverflows : Type 0
NothingOverflows =
    (cg ternary pg adaptive : ℤ) → nat_abs cg ≤ 2 ^ 31 → nat_abs ternary ≤ 2 ^ 7 → nat_abs pg ≤ 2 ^ 31
    → nat_abs adaptive ≤ 2 ^ 31
    → (nat_abs (cg *ℤ ternary) < 2 ^ 63)
    × (nat_abs (pos 1000 *ℤ (cg *ℤ ternary)) < 2 ^ 63)
    × (nat_abs (pg *ℤ adaptive) < 2 ^ 63)
    × (nat_abs (sum_of cg ternary pg adaptive) < 2 ^ 63)

-- A loop that looks for the lowest place whose number has more bits than it may: what a shift tells of the next place.
-- Assumes nothing.
use mathlib.Core.Path.{◌≡◌, ◌∙◌}
use mathlib.Core.Bool.{Bool}
use Prim.Native.Nat.{ℕ, ◌+◌, ◌/◌, ◌^◌, ◌<◌}
use lib.Dec.{leb}
use Rattle.laws.specs.Lowest.{lowest}
use Rattle.laws.proofs.Lowest.{NoneUpTo, none_more, none_found}
use Rattle.laws.proofs.Bits.{shr_zero_test, shr_left_test}

-- the test t at place i + 1 is whether x has more than w bits, and at no place before it was it so
module _ (t : ℕ → Bool) {i : ℕ} (x w : ℕ) (is : t (i + 1) ≡ leb (2 ^ w) x) (p : NoneUpTo t i) where
  -- nothing is left of x after a shift by w: it is not so at this place either
  pub fits_next : x / 2 ^ w ≡ 0 → NoneUpTo t (i + 1)
  fits_next e = none_more t p (is ∙ shr_zero_test x w e)

  -- something is left of it: this is the lowest place
  pub wide_next : (n : ℕ) → i < n → (x / 2 ^ w ≡ 0 → ⊥) → i + 1 ≡ lowest t n
  wide_next n h e = none_found t n p h (is ∙ shr_left_test x w e)

-- The order of bits: where a place stands and which place stands there are inverse to each other. Nothing here
-- depends on which order it is: one test over the 144 places shows it.
-- Assumes nothing.
use mathlib.Core.Path.{◌≡◌, subst}
use mathlib.Core.Bool.{Bool}
use Prim.Native.Nat.{ℕ, zero, suc, ◌+◌, ◌*◌, ◌/◌, ◌%◌, ◌<◌, ◌≤◌}
use native.Mathlib.Omega.{arith}
use lib.Dec.{T, ltb, ltb→lt, eqb, eqb→eq}
use Rattle.laws.specs.Lowest.{lowest_from}
use Rattle.laws.specs.Table.{both, all_below}
use Rattle.laws.proofs.Table.{below, both_left, both_right}
use Rattle.frame.specs.Frame.{byte_of, shift_of, place_at}
use Rattle.frame.proofs.Places.{placed, placed_told}

-- the test at place p: it stands in one of the eighteen bytes, at one of the eight bits, and no place before it
-- stands there
here : ℕ → Bool
here p = both (ltb (byte_of p) 18) (both (ltb (shift_of p) 8) (eqb (place_at (byte_of p) (shift_of p)) p))

-- the test at bit i of byte k: a place p stands there
there : ℕ → ℕ → ℕ → Bool
there k i p = placed p (byte_of p) k (shift_of p) i

-- both at once: the places 1 to 144, and the eight bits of the eighteen bytes
inverse : ℕ → Bool
inverse n = both (here (suc n)) (there (n / 8) (n % 8) (place_at (n / 8) (n % 8)))

-- they pass everywhere
all_inverse : T (all_below 144 inverse)
unfolding inverse here there place_at lowest_from
all_inverse = tt

-- a place is the one that stands where it stands
module _ (p : ℕ) (a : 1 ≤ p) (h : p ≤ 144) where
  -- the test, at the place after the n-th
  tested : (n : ℕ) → n < 144 → T (here (suc n))
  unfolding inverse
  tested n l =
      both_left (here (suc n)) (there (n / 8) (n % 8) (place_at (n / 8) (n % 8))) (below inverse 144 all_inverse n l)

  -- the test, at each of the 144
  holds : (q : ℕ) → 1 ≤ q → q ≤ 144 → T (here q)
  holds zero b l = absurd (omega arith)
  holds (suc n) b l = tested n l

  -- and what it tells
  told : (byte_of p < 18) × (shift_of p < 8) × (place_at (byte_of p) (shift_of p) ≡ p)
  unfolding here
  told =
      let t = holds p a h in
      let u = both_right (ltb (byte_of p) 18) (both (ltb (shift_of p) 8) (eqb (place_at (byte_of p) (shift_of p)) p)) t in (
        ltb→lt (byte_of p) 18
            (both_left (ltb (byte_of p) 18) (both (ltb (shift_of p) 8) (eqb (place_at (byte_of p) (shift_of p)) p)) t),
        ltb→lt (shift_of p) 8 (both_left (ltb (shift_of p) 8) (eqb (place_at (byte_of p) (shift_of p)) p) u),
        eqb→eq (place_at (byte_of p) (shift_of p)) p
            (both_right (ltb (shift_of p) 8) (eqb (place_at (byte_of p) (shift_of p)) p) u),
      )

  -- a place stands in one of eighteen bytes
  pub byte_small : byte_of p < 18
  byte_small = told.0

  -- at one of eight bits
  pub shift_small : shift_of p < 8
  shift_small = told.1

  -- and the place of that byte and bit is the place again
  pub place_back : place_at (byte_of p) (shift_of p) ≡ p
  place_back = told.2

-- at every bit of every byte stands a place
module _ (k i : ℕ) (h : k < 18) (l : i < 8) where
  -- the test there
  found : T (there k i (place_at k i))
  unfolding inverse
  found =
      subst (λ (x : ℕ). T (there x i (place_at x i))) byte
      (subst (λ (x : ℕ). T (there ((8 * k + i) / 8) x (place_at ((8 * k + i) / 8) x))) bit
      (both_right (here (suc (8 * k + i)))
      (there ((8 * k + i) / 8) ((8 * k + i) % 8) (place_at ((8 * k + i) / 8) ((8 * k + i) % 8)))
      (below inverse 144 all_inverse (8 * k + i) (omega arith))))
    where
      byte : (8 * k + i) / 8 ≡ k
      byte = omega arith

      bit : (8 * k + i) % 8 ≡ i
      bit = omega arith

  -- and what it tells
  stands : (1 ≤ place_at k i) × (place_at k i ≤ 144) × (byte_of (place_at k i) ≡ k) × (shift_of (place_at k i) ≡ i)
  unfolding there
  stands =
      placed_told (place_at k i) (byte_of (place_at k i)) k (shift_of (place_at k i)) i found

  -- the place of a byte and a bit is 1 or more
  pub there_first : 1 ≤ place_at k i
  there_first = stands.0

  -- and at most 144
  pub there_last : place_at k i ≤ 144
  there_last = stands.1

  -- it stands in that byte
  pub byte_there : byte_of (place_at k i) ≡ k
  byte_there = stands.2

  -- at that bit
  pub shift_there : shift_of (place_at k i) ≡ i
  shift_there = stands.3

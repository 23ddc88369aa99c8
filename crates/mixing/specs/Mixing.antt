-- One element of the excitation (document 02, K6; house rules, the standard leaves the arithmetic open).
use Rattle.std.specs.Prelude.{ℕ, ◌+◌, ◌/◌, min, ℤ, pos, negsuc, neg_ℤ, ◌+ℤ◌, ◌*ℤ◌, nat_abs}

-- in thousandths, the exact sum of CG times the ternary element and a thousandth of PG times the adaptive element
unfoldable pub sum_of : ℤ → ℤ → ℤ → ℤ → ℤ
sum_of cg ternary pg adaptive = pos 1000 *ℤ (cg *ℤ ternary) +ℤ pg *ℤ adaptive

-- a size with the sign of a number
abbrev pub signed_as : ℤ → ℕ → ℤ
signed_as (pos n) size = pos size
signed_as (negsuc n) size = neg_ℤ (pos size)

-- how often d goes into a size, to nearest, once more at a half
abbrev pub rounded_size : ℕ → ℕ → ℕ
rounded_size d size = (size + d / 2) / d

-- a number divided by d, rounded once to nearest with halves away from zero
unfoldable pub rounded_by : ℕ → ℤ → ℤ
rounded_by d z = signed_as z (rounded_size d (nat_abs z))

-- a size within the ends
abbrev pub held_size : ℕ → ℕ
held_size size = min size 1000000

-- a number held within plus or minus 1,000,000
unfoldable pub held_of : ℤ → ℤ
held_of z = signed_as z (held_size (nat_abs z))

-- so many thousandths as a whole number: rounded, then held
abbrev pub whole_of : ℤ → ℤ
whole_of sum = held_of (rounded_by 1000 sum)

-- a step of the code: the same of a size alone
abbrev pub whole_size : ℕ → ℕ
whole_size size = held_size (rounded_size 1000 size)

-- an element of the excitation
unfoldable pub element_of : ℤ → ℤ → ℤ → ℤ → ℤ
element_of cg ternary pg adaptive = whole_of (sum_of cg ternary pg adaptive)

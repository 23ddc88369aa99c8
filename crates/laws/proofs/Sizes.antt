-- The size of a signed number: of a product and of a sum, and which numbers a width has room for by their size.
-- Assumes nothing.
use mathlib.Core.Path.{◌≡◌, refl, ap}
use mathlib.Core.Bool.{Bool, true, false, cond}
use Prim.Native.Nat.{ℕ, zero, suc, ◌+◌, ◌-◌, ◌*◌, ◌<◌, ◌≤◌, ◌^◌}
use native.Mathlib.Omega.{arith}
use borrow.Author.Tests.{lt-ltb}
use lib.Dec.{ltb}
use lib.IntN.{ℤ, pos, negsuc, neg_ℤ, ◌+ℤ◌, ◌-ℤ◌, ◌*ℤ◌, nat_abs}
use lib.Signed.{nat_abs-le}
use mir.Syntax.{Width}
use mir.Val.{SFits, hbits}

-- a number turned round keeps its size
pub size_turned : (n : ℕ) → nat_abs (neg_ℤ (pos n)) ≡ n
size_turned zero = refl
size_turned (suc n) = refl

-- so does one that is taken from zero
pub from_zero : (n : ℕ) → pos 0 -ℤ pos n ≡ neg_ℤ (pos n)
from_zero zero = refl
from_zero (suc n) = rw (lt-ltb 0 (suc n) (omega arith)) (ap negsuc (omega arith))

-- the size of a product is the product of the sizes
pub size_product : (x y : ℤ) → nat_abs (x *ℤ y) ≡ nat_abs x * nat_abs y
size_product (pos a) (pos b) = refl
size_product (pos a) (negsuc b) = size_turned (a * suc b)
size_product (negsuc a) (pos b) = size_turned (suc a * b)
size_product (negsuc a) (negsuc b) = refl

-- that of a difference is at most the sum of the sizes
size_apart : (a b : ℕ) (t : Bool) → nat_abs (cond t (negsuc (suc b - suc a)) (pos (a - suc b))) ≤ a + suc b
size_apart a b true = omega arith
size_apart a b false = omega arith

-- and so is that of a sum
pub size_sum : (x y : ℤ) → nat_abs (x +ℤ y) ≤ nat_abs x + nat_abs y
size_sum (pos a) (pos b) = omega arith
size_sum (pos a) (negsuc b) = size_apart a b (ltb a (suc b))
size_sum (negsuc a) (pos b) = let h = size_apart b a (ltb b (suc a)) in omega (arith, h)
size_sum (negsuc a) (negsuc b) = omega arith

-- a number whose size is below half the power of a width has room there
pub fits_size : (w : Width) {z : ℤ} → nat_abs z < 2 ^ hbits w → SFits w z
fits_size w {z = pos n} h = record { sfits = h }
fits_size w {z = negsuc n} h = record { sfits = omega (arith, h) }

-- and the size of a number that has room is at most that
pub size_fits : (w : Width) {z : ℤ} → SFits w z → nat_abs z ≤ 2 ^ hbits w
size_fits w {z} f = nat_abs-le z f.sfits

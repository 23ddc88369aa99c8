-- Signed numbers: equality as a test.
-- Assumes nothing.
use mathlib.Core.Path.{◌≡◌, ap}
use mathlib.Core.Bool.{Bool, false}
use lib.Dec.{T, eqb, eqb→eq}
use lib.IntN.{ℤ, pos, negsuc}

-- two signed numbers are equal
abbrev pub same : ℤ → ℤ → Bool
same (pos a) (pos b) = eqb a b
same (pos a) (negsuc b) = false
same (negsuc a) (pos b) = false
same (negsuc a) (negsuc b) = eqb a b

-- numbers that pass the test are equal
pub same→eq : (x y : ℤ) → T (same x y) → x ≡ y
same→eq (pos a) (pos b) t = ap pos (eqb→eq a b t)
same→eq (pos a) (negsuc b) t = absurd t
same→eq (negsuc a) (pos b) t = absurd t
same→eq (negsuc a) (negsuc b) t = ap negsuc (eqb→eq a b t)

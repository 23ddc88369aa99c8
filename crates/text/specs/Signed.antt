-- A signed number in decimal, in ASCII.
use Rattle.std.specs.Prelude.{List, [], ◌∷◌, ◌++◌, ℕ, suc, ℤ, pos, negsuc}
use Rattle.text.specs.Decimal.{decimal}

-- a minus stands before the size of a number below 0
abbrev pub signed_decimal : ℤ → List ℕ
signed_decimal (pos n) = decimal n
signed_decimal (negsuc n) = 45 ∷ decimal (suc n)

-- numbers in a row, a space before each
unfoldable pub spaced : List ℤ → List ℕ
spaced [] = []
spaced (x ∷ xs) = 32 ∷ signed_decimal x ++ spaced xs

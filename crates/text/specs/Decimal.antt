-- A number in decimal, in ASCII.
use Rattle.std.specs.Prelude.{List, [], ◌∷◌, ◌++◌, ℕ, zero, suc, ◌+◌, ◌/◌, ◌%◌}

-- the byte of a digit 0 to 9
abbrev pub digit : ℕ → ℕ
digit d = 48 + d

-- the digits of n, if there are at most k: none where n is 0, and else those of n / 10 and then the last
unfoldable pub digits_in : ℕ → ℕ → List ℕ
digits_in zero n = []
digits_in (suc k) zero = []
digits_in (suc k) (suc n) = digits_in k (suc n / 10) ++ (digit (suc n % 10) ∷ [])

-- n in decimal: the digits of n / 10, of which there are at most n, and then the last. So 0 is "0", and no other begins
-- with a zero.
unfoldable pub decimal : ℕ → List ℕ
decimal n = digits_in n (n / 10) ++ (digit (n % 10) ∷ [])

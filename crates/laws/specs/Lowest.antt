-- The lowest number at which something is so.
use Rattle.std.specs.Prelude.{Bool, cond, ℕ, zero, suc}

-- of the k numbers from i on, the lowest at which t holds, or 0 if there is none
unfoldable pub lowest_from : (ℕ → Bool) → ℕ → ℕ → ℕ
lowest_from t i zero = 0
lowest_from t i (suc k) = cond (t i) i (lowest_from t (suc i) k)

-- of the numbers 1 to n, the lowest at which t holds, or 0 if there is none
abbrev pub lowest : (ℕ → Bool) → ℕ → ℕ
lowest t n = lowest_from t 1 n

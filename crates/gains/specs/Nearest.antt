-- From a number to the index of the nearest entry, the lower one on a tie (document 01, "Gains").
use Rattle.std.specs.Prelude.{cond, List, [], ◌∷◌, ℕ, suc, ◌<◌, ◌≤◌, leb, ℤ, pos, ◌-ℤ◌, nat_abs, length, get_or}
use Rattle.laws.specs.Table.{every}

-- how far a number is from an entry
unfoldable pub apart : ℤ → ℤ → ℕ
apart x entry = nat_abs (x -ℤ entry)

-- the index of the first entry than which no later one is nearer
unfoldable pub nearest_of : List ℤ → ℤ → ℕ
nearest_of [] x = 0
nearest_of (e ∷ es) x = cond (every (λ k later. leb (apart x e) (apart x later)) 0 es) 0 (suc (nearest_of es x))

-- how far a number is from the entry at an index
abbrev pub apart_at : List ℤ → ℤ → ℕ → ℕ
apart_at table x i = apart x (get_or table i (pos 0))

-- the same in plain terms: the index is in the table, no entry is nearer than the one there, and each lower one is
-- farther
pub record Nearest (table : List ℤ) (x : ℤ) (i : ℕ) : Type 0 where
  pub within : i < length table
  pub least : (k : ℕ) → k < length table → apart_at table x i ≤ apart_at table x k
  pub lowest : (k : ℕ) → k < i → apart_at table x i < apart_at table x k

-- The order of the ten parameters (3.7.2: "must be monotonic") and the mark of the first fall.
use Rattle.std.specs.Prelude.{Bool, List, ℕ, ◌+◌, ◌≤◌, ltb}
use Rattle.laws.specs.Lowest.{lowest}
use Rattle.lsp.specs.Table.{lsp}

-- LSP j+1 is below LSP j: equal is in order
abbrev pub falls : List ℕ → ℕ → Bool
falls hz j = ltb (lsp hz (j + 1)) (lsp hz j)

-- the order mark: the lowest j of 1 to 9 at which the parameters fall, or 0
unfoldable pub mark_of : List ℕ → ℕ
mark_of hz = lowest (falls hz) 9

-- no parameter is below the one before it
abbrev pub InOrder : List ℕ → Type 0
InOrder hz = (j : ℕ) → 1 ≤ j → j ≤ 9 → lsp hz j ≤ lsp hz (j + 1)

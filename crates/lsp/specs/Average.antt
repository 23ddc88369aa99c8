-- The weighted averages of 3.7.3, as whole eighths of a Hz.
use Rattle.std.specs.Prelude.{List, ℕ, ◌+◌, ◌*◌, ◌-◌, ◌/◌, ◌%◌, take, drop}
use Rattle.laws.specs.Tabulate.{tabulate}
use Rattle.lsp.specs.Table.{lsp}

-- in subframe n, 9-2n eighths of the previous frame's value and 2n-1 of the present one's
abbrev pub average_of : ℕ → ℕ → ℕ → ℕ
average_of n previous present = (9 - 2 * n) * previous + (2 * n - 1) * present

-- LSP j in subframe n
abbrev pub average_at : List ℕ → List ℕ → ℕ → ℕ → ℕ
average_at previous present n j = average_of n (lsp previous j) (lsp present j)

-- the four sets one after the other: at place 10(n-1) + (j-1) stands LSP j in subframe n
unfoldable pub averages_of : List ℕ → List ℕ → List ℕ
averages_of previous present = tabulate (λ k. average_at previous present (k / 10 + 1) (k % 10 + 1)) 40

-- the ten of subframe n
abbrev pub subframe : ℕ → List ℕ → List ℕ
subframe n averages = take 10 (drop (10 * (n - 1)) averages)

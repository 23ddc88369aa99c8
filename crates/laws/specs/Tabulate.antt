-- A list given by what stands at each place.
use Rattle.std.specs.Prelude.{List, [], ◌∷◌, ℕ, zero, suc}

-- f i, f (i + 1) and so on, n of them
unfoldable pub tabulate_from : {A : Type 0} → ℕ → (ℕ → A) → ℕ → List A
tabulate_from i f zero = []
tabulate_from i f (suc n) = f i ∷ tabulate_from (suc i) f n

-- f 0 to f (n - 1)
abbrev pub tabulate : {A : Type 0} → (ℕ → A) → ℕ → List A
tabulate f n = tabulate_from 0 f n

-- A function given by what it does in one turn, with the answer where more turns are asked for than are allowed.
use Rattle.std.specs.Prelude.{ℕ, zero, suc}

-- at most n turns of `turn`, which is given how to go on; `out` where they run out
unfoldable pub turns : {A R : Type 0} → R → ((A → R) → A → R) → ℕ → A → R
turns out turn zero x = out
turns out turn (suc n) x = turn (turns out turn n) x

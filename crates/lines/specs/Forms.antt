-- A line as a form and its numbers.
use Rattle.std.specs.Prelude.{cond, List, [], ◌∷◌, ◌++◌, ℕ, ltb, get_or, take}
use Rattle.text.specs.Decimal.{decimal}
use Rattle.lines.specs.declared.Form.{Form}

-- what a byte of a form shows: below 8 the number at that place, any other itself
abbrev pub shown_by : List ℕ → ℕ → List ℕ
shown_by numbers c = cond (ltb c 8) (decimal (get_or numbers c 0)) (c ∷ [])

unfoldable pub filled_in : List ℕ → List ℕ → List ℕ
filled_in numbers [] = []
filled_in numbers (c ∷ form) = shown_by numbers c ++ filled_in numbers form

abbrev pub form_text : Form → List ℕ
form_text f = filled_in f.numbers (take f.size f.bytes)

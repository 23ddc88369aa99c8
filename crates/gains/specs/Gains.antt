-- From an index to its gain, and what a refusal says (document 01, "Gains" and "Refusal numbers").
use Rattle.std.specs.Prelude.{List, [], ◌∷◌, ℕ, leb, ℤ, pos, get_or, Result, Ok, Err}
use Rattle.laws.specs.Unless.{unless}
use Rattle.gains.specs.declared.Refusal.{Refusal}
use Rattle.gains.specs.declared.Refusal.TheVariants.{TooLarge}
use Rattle.gains.specs.Tables.{cg_table, pg_table}

-- an index over 31 is too large for the five bits of its field
unfoldable pub gain_of : List ℤ → ℕ → Result ℤ Refusal
gain_of table i = unless (leb i 31) (Err TooLarge) (Ok (get_or table i (pos 0)))

-- the gain of a CG index
abbrev pub cg_of : ℕ → Result ℤ Refusal
cg_of i = gain_of cg_table i

-- the gain of a PG index, in thousandths
abbrev pub pg_of : ℕ → Result ℤ Refusal
pg_of i = gain_of pg_table i

-- the refusal's number, or 0
abbrev pub refusal_of : Result ℤ Refusal → ℕ
refusal_of (Ok v) = 0
refusal_of (Err TooLarge) = 2

-- what the refusal tells: 0, for the index stands alone and in no field
abbrev pub tells_of : Result ℤ Refusal → List ℕ
tells_of (Ok v) = []
tells_of (Err TooLarge) = 0 ∷ []

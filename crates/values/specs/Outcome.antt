-- Whether a record is turned into values, or refused (document 01, "Refusal numbers").
use Rattle.std.specs.Prelude.{Bool, true, false, List, [], ◌∷◌, ℕ, eqb}
use Rattle.laws.specs.Unless.{unless}
use Rattle.record.specs.Fields.{too_large_field}
use Rattle.record.specs.declared.Record.{Record}
use Rattle.values.specs.declared.Outcome.{Outcome}
use Rattle.values.specs.declared.Outcome.TheVariants.{Heard, TooLarge, Expansion, Nothing}

-- lowest refusal number first: an index too large for its field, then SP is 1
unfoldable pub outcome_of : Record → Outcome
outcome_of r =
    unless (eqb (too_large_field r) 0) (TooLarge (too_large_field r))
    (unless (eqb r.sp 0) Expansion Heard)

-- a record that has values
abbrev pub is_heard : Outcome → Bool
is_heard Heard = true
is_heard (TooLarge field) = false
is_heard Expansion = false
is_heard Nothing = false

-- the refusal's number, 0 where there is none
abbrev pub refusal_of : Outcome → ℕ
refusal_of Heard = 0
refusal_of (TooLarge field) = 2
refusal_of Expansion = 6
refusal_of Nothing = 0

-- what the refusal tells
abbrev pub tells_of : Outcome → List ℕ
tells_of Heard = []
tells_of (TooLarge field) = field ∷ []
tells_of Expansion = []
tells_of Nothing = []

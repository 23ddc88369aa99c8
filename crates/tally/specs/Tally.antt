-- The tally book over its entries (document 02, K3): "it takes unit, recording number and spoken count, 32 bits each,
-- holds up to 4,096 entries, and counts each unit and number once. The same entry again answers 'already held'. [..]
-- Refusals: 13 when the key is held with another count, then 14 when the book is full and the key is new; both leave
-- the book as it was."
use Rattle.std.specs.Prelude.{Bool, cond, List, [], ◌∷◌, ◌++◌, ℕ, ◌+◌, eqb, ltb, length}
use Rattle.laws.specs.Table.{both}
use Rattle.tally.specs.declared.Entry.{Entry}
use Rattle.std.specs.Prelude.{Option, Some, None, Result, Ok, Err}
use Rattle.tally.specs.declared.Tallied.{Tallied}
use Rattle.tally.specs.declared.Tallied.TheVariants.{Entered, AlreadyHeld}
use Rattle.tally.specs.declared.Refusal.{Refusal}
use Rattle.tally.specs.declared.Refusal.TheVariants.{OtherCount, Full}

-- up to so many entries
abbrev pub most : ℕ
most = 4096

-- the key of an entry: unit and recording number
abbrev pub has_key : ℕ → ℕ → Entry → Bool
has_key unit number e = both (eqb e.number number) (eqb e.unit unit)

-- "is it held", and with which count: that of the first entry with this key
unfoldable pub holding_in : List Entry → ℕ → ℕ → Option ℕ
holding_in [] unit number = None
holding_in (e ∷ es) unit number = cond (has_key unit number e) (Some e.count) (holding_in es unit number)

-- the total for a unit: the sum of the counts of its entries
abbrev pub share : ℕ → Entry → ℕ
share unit e = cond (eqb e.unit unit) e.count 0

unfoldable pub total_in : List Entry → ℕ → ℕ
total_in [] unit = 0
total_in (e ∷ es) unit = share unit e + total_in es unit

-- what entering answers, where this is held under the key and so many entries are there
abbrev pub tally_new : ℕ → Result Tallied Refusal
tally_new entries = cond (ltb entries most) (Ok Entered) (Err Full)

abbrev pub tally_by : Option ℕ → ℕ → ℕ → Result Tallied Refusal
tally_by (Some held) entries count = cond (eqb held count) (Ok AlreadyHeld) (Err OtherCount)
tally_by None entries count = tally_new entries

unfoldable pub tally_of : List Entry → Entry → Result Tallied Refusal
tally_of es e = tally_by (holding_in es e.unit e.number) (length es) e.count

-- the entries then: a new one comes last, and else they are as they were
abbrev pub entries_by : Result Tallied Refusal → List Entry → Entry → List Entry
entries_by (Ok Entered) es e = es ++ (e ∷ [])
entries_by (Ok AlreadyHeld) es e = es
entries_by (Err refusal) es e = es

unfoldable pub entries_then : List Entry → Entry → List Entry
entries_then es e = entries_by (tally_of es e) es e

-- the number of a refusal. Neither tells anything beside it.
abbrev pub numbered : Refusal → ℕ
numbered OtherCount = 13
numbered Full = 14

-- that of an answer; 0 is none
abbrev pub number_of : Result Tallied Refusal → ℕ
number_of (Ok tallied) = 0
number_of (Err refusal) = numbered refusal

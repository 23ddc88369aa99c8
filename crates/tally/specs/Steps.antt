-- What the steps of `ask` and `enter` answer and leave.
use Rattle.std.specs.Prelude.{cond, List, [], ◌∷◌, ℕ, suc}
use Rattle.tally.specs.Tally.{has_key, tally_new}
use Rattle.tally.specs.Book.{entries_in, book_by}
use Rattle.tally.specs.declared.Entry.{Entry}
use Rattle.std.specs.Prelude.{Result}
use Rattle.tally.specs.declared.Tallied.{Tallied}
use Rattle.tally.specs.declared.Refusal.{Refusal}

-- the place of the first entry with a key, counted from 0; where there is none, the place after all
unfoldable pub place_of : List Entry → ℕ → ℕ → ℕ
place_of [] unit number = 0
place_of (e ∷ es) unit number = cond (has_key unit number e) 0 (suc (place_of es unit number))

-- what is answered where the key is new, and the book then
abbrev pub tally_or_full : List ℕ → Result Tallied Refusal
tally_or_full b = tally_new (entries_in b)

abbrev pub appended : List ℕ → Entry → List ℕ
appended b e = book_by (tally_or_full b) b e

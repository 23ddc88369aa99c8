-- A book as the caller lends it: 12,289 words. The first tells how many entries it holds, 4,096 where it tells more;
-- then come three columns of 4,096 words, the numbers, the units and the counts. So any words are a book.
use Rattle.std.specs.Prelude.{cond, List, ℕ, ◌+◌, leb, get_or, set}
use Rattle.laws.specs.Tabulate.{tabulate}
use Rattle.tally.specs.Tally.{most, tally_of}
use Rattle.tally.specs.declared.Entry.{Entry}
use Rattle.std.specs.Prelude.{Result, Ok, Err}
use Rattle.tally.specs.declared.Tallied.{Tallied}
use Rattle.tally.specs.declared.Tallied.TheVariants.{Entered, AlreadyHeld}
use Rattle.tally.specs.declared.Refusal.{Refusal}

abbrev pub words : ℕ
words = 12289

-- how many entries a book holds
unfoldable pub entries_in : List ℕ → ℕ
entries_in b = cond (leb (get_or b 0 0) most) (get_or b 0 0) most

-- the entry in a row, counted from 0
abbrev pub entry_at : List ℕ → ℕ → Entry
entry_at b i = record { unit = get_or b (4097 + i) 0; number = get_or b (1 + i) 0; count = get_or b (8193 + i) 0 }

unfoldable pub entries_of : List ℕ → List Entry
entries_of b = tabulate (entry_at b) (entries_in b)

-- an empty book, whatever stands in its columns
unfoldable pub emptied : List ℕ → List ℕ
emptied b = set b 0 0

-- a book with an entry laid into a row, and so many entries told
abbrev pub laid_in : List ℕ → ℕ → Entry → List ℕ
laid_in b row e =
    set (set (set (set b (1 + row) e.number) (4097 + row) e.unit) (8193 + row) e.count) 0 (row + 1)

-- what entering answers, and the book then: a new entry in the row after those there are, and else every word as it was
abbrev pub tallied : List ℕ → Entry → Result Tallied Refusal
tallied b e = tally_of (entries_of b) e

abbrev pub book_by : Result Tallied Refusal → List ℕ → Entry → List ℕ
book_by (Ok Entered) b e = laid_in b (entries_in b) e
book_by (Ok AlreadyHeld) b e = b
book_by (Err refusal) b e = b

unfoldable pub book_then : List ℕ → Entry → List ℕ
book_then b e = book_by (tallied b e) b e

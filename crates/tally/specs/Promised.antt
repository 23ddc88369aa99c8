-- What holds of every book and of every history of calls (document 02, K3).
use Rattle.std.specs.Prelude.{◌≡◌, false, List, [], ◌↔◌, ℕ, ◌*◌, ◌<◌, ◌≤◌, length, get_or}
use Rattle.blocks.specs.Walk.{walked_of}
use Rattle.blocks.specs.Refusals.{walked_refusal, walked_tells}
use Rattle.tally.specs.Tally.{most, has_key, holding_in, total_in, number_of}
use Rattle.tally.specs.Book.{entries_in, entry_at, entries_of, emptied, tallied, book_then}
use Rattle.tally.specs.Entering.{entering_of, recording_entry, refusal_of, tells_of}
use Rattle.tally.specs.History.{Call, answer_of, book_after, book_after_all, entries_for, accepted_in, distinct, IsBook}
use Rattle.tally.specs.History.{EmptyBook, Among, Agreeing, Fitting, Reordered}
use Rattle.tally.specs.declared.Entry.{Entry}
use Rattle.std.specs.Prelude.{Option, Some, None, Result, Ok, Err}
use Rattle.tally.specs.declared.Tallied.{Tallied}
use Rattle.tally.specs.declared.Tallied.TheVariants.{Entered, AlreadyHeld}
use Rattle.tally.specs.declared.RecordingRefusal.{RecordingRefusal}
use Rattle.tally.specs.Entering.{of_entry}

-- what a book holds under the key of an entry
abbrev pub held_for : List ℕ → Entry → Option ℕ
held_for b e = holding_in (entries_of b) e.unit e.number

-- "The same entry again answers 'already held'", also when the book is full; "13 when the key is held with another
-- count, then 14 when the book is full and the key is new"; and else it is entered. Each exactly so.
unfoldable pub TallyRefuses : Type 0
TallyRefuses =
    (b : List ℕ) (e : Entry)
    → ((tallied b e ≡ Ok AlreadyHeld) ↔ (held_for b e ≡ Some e.count))
    × ((number_of (tallied b e) ≡ 13) ↔ ((count : ℕ) × (held_for b e ≡ Some count) × (count ≡ e.count → ⊥)))
    × ((number_of (tallied b e) ≡ 14) ↔ ((held_for b e ≡ None) × (entries_in b ≡ most)))
    × ((tallied b e ≡ Ok Entered) ↔ ((held_for b e ≡ None) × (entries_in b < most)))

-- a recording's own refusal comes first, by its number and with what it tells; a sound one is entered by what its head
-- tells, and then nothing is told
unfoldable pub RecordingFirst : Type 0
RecordingFirst =
    (b s : List ℕ) (count : ℕ)
    → ((walked_refusal (walked_of s) ≡ 0 → ⊥)
    → (refusal_of (entering_of b s count) ≡ walked_refusal (walked_of s))
    × (tells_of (entering_of b s count) ≡ walked_tells (walked_of s)))
    × (walked_refusal (walked_of s) ≡ 0
    → (entering_of b s count ≡ of_entry (tallied b (recording_entry s count)))
    × (tells_of (entering_of b s count) ≡ []))

-- a refusal leaves every word of the book as it was, and so does "already held"
unfoldable pub TallyStands : Type 0
TallyStands =
    (b : List ℕ) (c : Call)
    → ((refusal_of (answer_of b c) ≡ 0 → ⊥) → book_after b c ≡ b)
    × (answer_of b c ≡ Ok AlreadyHeld → book_after b c ≡ b)

-- a book never holds more than 4,096 entries; a total then has no more than 44 bits
unfoldable pub TotalFits : Type 0
TotalFits =
    (b : List ℕ) (unit : ℕ) → ((i : ℕ) → get_or b i 0 < 4294967296)
    → (entries_in b ≤ most) × (total_in (entries_of b) unit ≤ 4096 * 4294967295)

-- a book that is cleared is empty
unfoldable pub ClearedEmpty : Type 0
ClearedEmpty = (b : List ℕ) → IsBook b → EmptyBook (emptied b) × (entries_of (emptied b) ≡ [])

-- from an empty book on, whatever is called: it stays a book, and no key is held twice
unfoldable pub NoKeyTwice : Type 0
NoKeyTwice =
    (b : List ℕ) (h : List Call) → EmptyBook b
    → IsBook (book_after_all b h)
    × ((i j : ℕ) → i < j → j < entries_in (book_after_all b h)
    → has_key (entry_at (book_after_all b h) i).unit (entry_at (book_after_all b h) i).number (entry_at (book_after_all b h) j)
    ≡ false)

-- "The total for a unit is the sum, over the distinct entries in the history of accepted calls, of the count that came
-- first"; and there are as many entries as those
unfoldable pub TotalOfFirsts : Type 0
TotalOfFirsts =
    (b : List ℕ) (h : List Call) → EmptyBook b
    → ((unit : ℕ) → total_in (entries_of (book_after_all b h)) unit ≡ total_in (distinct (accepted_in b h)) unit)
    × (entries_in (book_after_all b h) ≡ length (distinct (accepted_in b h)))

-- a key is held exactly if an accepted call had it, with the count that came first: the first accepted entry with this
-- key, and every accepted entry with it, has that count
unfoldable pub HeldIfAccepted : Type 0
HeldIfAccepted =
    (b : List ℕ) (h : List Call) → EmptyBook b → (unit number : ℕ)
    → (holding_in (entries_of (book_after_all b h)) unit number ≡ holding_in (accepted_in b h) unit number)
    × ((count : ℕ)
    → (holding_in (entries_of (book_after_all b h)) unit number ≡ Some count)
    ↔ Among record { unit = unit; number = number; count = count } (accepted_in b h))

-- two books that answer all that can be asked alike
pub record SameAnswers (b c : List ℕ) : Type 0 where
  pub totals : (unit : ℕ) → total_in (entries_of b) unit ≡ total_in (entries_of c) unit
  pub held : (unit number : ℕ) → holding_in (entries_of b) unit number ≡ holding_in (entries_of c) unit number
  pub entries : entries_in b ≡ entries_in c

-- "Two accepted entries with different keys give the same totals and the same answers to 'is it held' in either order",
-- in any book; and they are accepted in either order
unfoldable pub EitherOrder : Type 0
EitherOrder =
    (b : List ℕ) (x y : Entry) → IsBook b → has_key x.unit x.number y ≡ false
    → number_of (tallied b x) ≡ 0 → number_of (tallied (book_then b x) y) ≡ 0
    → (number_of (tallied b y) ≡ 0) × (number_of (tallied (book_then b y) x) ≡ 0)
    × SameAnswers (book_then (book_then b x) y) (book_then (book_then b y) x)

-- so of any two orders of a history in which no two entries of one key differ and which fits: all is accepted in both,
-- but recordings that are refused by themselves, and the answers are the same
unfoldable pub AnyOrder : Type 0
AnyOrder =
    (b : List ℕ) (h g : List Call) → EmptyBook b → Reordered h g → Agreeing (entries_for h) → Fitting (entries_for h)
    → (accepted_in b h ≡ entries_for h) × (accepted_in b g ≡ entries_for g)
    × SameAnswers (book_after_all b h) (book_after_all b g)

-- what the same call answers the second time
abbrev pub again : Result Tallied RecordingRefusal → Result Tallied RecordingRefusal
again (Ok tallied) = Ok AlreadyHeld
again (Err refusal) = Err refusal

-- the same call twice changes nothing the second time, the same recording among them; what was entered is already held
unfoldable pub SameAgain : Type 0
SameAgain =
    (b : List ℕ) (c : Call) → IsBook b
    → (answer_of (book_after b c) c ≡ again (answer_of b c)) × (book_after (book_after b c) c ≡ book_after b c)

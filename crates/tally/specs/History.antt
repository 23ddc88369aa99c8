-- Histories of calls on a book (document 02, K3): "The total for a unit is the sum, over the distinct entries in the
-- history of accepted calls, of the count that came first."
use Rattle.std.specs.Prelude.{◌≡◌, cond, ℕ, ◌≤◌, eqb, length, get_or}
use mathlib.Core.List.{List, [], ◌∷◌, ◌++◌, Memᴰ}
use Rattle.blocks.specs.Walk.{walked_of}
use Rattle.blocks.specs.Frames.{if_sound}
use Rattle.tally.specs.Tally.{most, has_key}
use Rattle.tally.specs.Book.{words, tallied, book_then}
use Rattle.tally.specs.Entering.{recording_entry, entering_of, book_after_recording, refusal_of}
use Rattle.tally.specs.declared.Entry.{Entry}
use Rattle.std.specs.Prelude.{Result}
use Rattle.tally.specs.declared.Tallied.{Tallied}
use Rattle.tally.specs.declared.RecordingRefusal.{RecordingRefusal}
use Rattle.tally.specs.Entering.{of_entry}

-- what can be called: an entry is entered, or the bytes of a recording with the count that was spoken in it
pub data Call : Type 0 where
  enter : Entry → Call
  recording : List ℕ → ℕ → Call

-- what a call answers, and the book after it
abbrev pub answer_of : List ℕ → Call → Result Tallied RecordingRefusal
answer_of b (enter e) = of_entry (tallied b e)
answer_of b (recording s count) = entering_of b s count

abbrev pub book_after : List ℕ → Call → List ℕ
book_after b (enter e) = book_then b e
book_after b (recording s count) = book_after_recording b s count

-- the book after a history, the first call first
unfoldable pub book_after_all : List ℕ → List Call → List ℕ
book_after_all b [] = b
book_after_all b (c ∷ h) = book_after_all (book_after b c) h

-- what a call would enter: a recording that is refused, nothing
abbrev pub entry_in : Call → List Entry
entry_in (enter e) = e ∷ []
entry_in (recording s count) = if_sound (walked_of s).ending (recording_entry s count ∷ []) []

unfoldable pub entries_for : List Call → List Entry
entries_for [] = []
entries_for (c ∷ h) = entry_in c ++ entries_for h

-- the entries of the accepted calls of a history, in order: those that were not refused
abbrev pub if_accepted : Result Tallied RecordingRefusal → List Entry → List Entry
if_accepted answer es = cond (eqb (refusal_of answer) 0) es []

unfoldable pub accepted_in : List ℕ → List Call → List Entry
accepted_in b [] = []
accepted_in b (c ∷ h) = if_accepted (answer_of b c) (entry_in c) ++ accepted_in (book_after b c) h

-- the distinct entries of a list: of those with one key the one that came first
unfoldable pub without : Entry → List Entry → List Entry
without e [] = []
without e (x ∷ xs) = cond (has_key e.unit e.number x) (without e xs) (x ∷ without e xs)

unfoldable pub distinct : List Entry → List Entry
distinct [] = []
distinct (e ∷ es) = e ∷ without e (distinct es)

-- a book as it is lent, and an empty one
abbrev pub IsBook : List ℕ → Type 0
IsBook b = length b ≡ words

pub record EmptyBook (b : List ℕ) : Type 0 where
  pub book : IsBook b
  pub none : get_or b 0 0 ≡ 0

-- an entry is among others
abbrev pub Among : Entry → List Entry → Type 0
Among e es = Memᴰ e es

-- no two entries of one key differ
abbrev pub Agreeing : List Entry → Type 0
Agreeing es = (x y : Entry) → Among x es → Among y es → x.unit ≡ y.unit → x.number ≡ y.number → x.count ≡ y.count

-- the distinct ones fit a book
abbrev pub Fitting : List Entry → Type 0
Fitting es = length (distinct es) ≤ most

-- two orders of one history: neighbours change places, again and again
pub data Reordered {A : Type 0} : List A → List A → Type 0 where
  none : Reordered [] []
  next : (x : A) {l m : List A} → Reordered l m → Reordered (x ∷ l) (x ∷ m)
  swapped : (x y : A) (l : List A) → Reordered (x ∷ y ∷ l) (y ∷ x ∷ l)
  further : {l m n : List A} → Reordered l m → Reordered m n → Reordered l n

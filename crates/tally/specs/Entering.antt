-- Entering a recording: its own refusal first, and then as its unit and number are entered with the spoken count.
use Rattle.std.specs.Prelude.{List, [], ℕ, Ok, Err}
use Rattle.blocks.specs.Walk.{walked_of}
use Rattle.blocks.specs.Frames.{if_sound}
use Rattle.blocks.specs.Refusals as blocks
use Rattle.blocks.specs.Walk.{Ending}
use Rattle.blocks.specs.declared.Heading.{Heading}
use Rattle.tally.specs.Tally.{numbered}
use Rattle.tally.specs.Book.{tallied, book_then}
use Rattle.tally.specs.declared.Entry.{Entry}
use Rattle.std.specs.Prelude.{Result, Ok, Err}
use Rattle.tally.specs.declared.Tallied.{Tallied}
use Rattle.tally.specs.declared.Refusal.{Refusal}
use Rattle.tally.specs.declared.RecordingRefusal.{RecordingRefusal}
use Rattle.tally.specs.declared.RecordingRefusal.TheVariants.{Unsound, NotEntered}

-- what its head tells is the key
abbrev pub entry_of : Heading → ℕ → Entry
entry_of heading count = record { unit = heading.unit; number = heading.number; count = count }

-- what entering an entry comes to, as an answer about its recording
abbrev pub of_entry : Result Tallied Refusal → Result Tallied RecordingRefusal
of_entry (Ok tallied) = Ok tallied
of_entry (Err refusal) = Err (NotEntered refusal)

abbrev pub entering_by : Ending → List ℕ → Entry → Result Tallied RecordingRefusal
entering_by (Ok _) b e = of_entry (tallied b e)
entering_by (Err cause) b e = Err (Unsound cause)

-- the entry of a recording, if it is sound
unfoldable pub recording_entry : List ℕ → ℕ → Entry
recording_entry s count = entry_of (walked_of s).walk.heading count

unfoldable pub entering_of : List ℕ → List ℕ → ℕ → Result Tallied RecordingRefusal
entering_of b s count = entering_by (walked_of s).ending b (recording_entry s count)

unfoldable pub book_after_recording : List ℕ → List ℕ → ℕ → List ℕ
book_after_recording b s count = if_sound (walked_of s).ending (book_then b (recording_entry s count)) b

-- the number of the refusal, and what it tells; 0 is no refusal
abbrev pub refusal_of : Result Tallied RecordingRefusal → ℕ
refusal_of (Ok tallied) = 0
refusal_of (Err (NotEntered refusal)) = numbered refusal
refusal_of (Err (Unsound cause)) = blocks.refusal_of cause

abbrev pub tells_of : Result Tallied RecordingRefusal → List ℕ
tells_of (Ok tallied) = []
tells_of (Err (NotEntered refusal)) = []
tells_of (Err (Unsound cause)) = blocks.tells_of cause

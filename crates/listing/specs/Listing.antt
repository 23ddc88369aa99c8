-- The listing of a recording, byte for byte, and what a lent buffer holds after it.
use Rattle.std.specs.Prelude.{cond, List, [], ◌++◌, ℕ, zero, suc, eqb, length, get_or, drop, Ok, Err, Result}
use Rattle.listing.specs.declared.Unlisted.TheVariants.{WrongLength}
use Rattle.listing.specs.declared.Unlisted.{Unlisted}
use Rattle.values.specs.Values.{fresh_state}
use Rattle.values.specs.declared.State.{State}
use Rattle.blocks.specs.Walk.{walked_of}
use Rattle.blocks.specs.Frames.{frames_of}
use Rattle.blocks.specs.declared.Walk.{Walk}
use Rattle.blocks.specs.Walk.{Ending}
use Rattle.values.specs.Outcome as values
use Rattle.passes.specs.Counted.{counts_of}
use Rattle.passes.specs.Pass.{frame_heard}
use Rattle.passes.specs.declared.Counts.{Counts}
use Rattle.passes.specs.declared.Hearing.{Hearing}
use Rattle.lines.specs.Lines.{line_of}
use Rattle.lines.specs.declared.Line.TheVariants as Line
use Rattle.lines.specs.declared.Said.{Said}

-- what is said of frame n, which was heard
abbrev pub said_of : ℕ → Hearing → Said
said_of n h =
    record {
      number = n;
      correction = h.reading.correction;
      refusal = values.refusal_of h.values.outcome;
      mark = h.reading.mark;
      sy = h.reading.indices.sy;
      first = get_or h.values.delays 0 0;
      second = get_or h.values.delays 1 0;
      third = get_or h.values.delays 2 0;
      fourth = get_or h.values.delays 3 0;
    }

-- the first line, that of frame n, and the last
abbrev pub head_of : Walk → List ℕ
head_of w = line_of (Line.Head w.heading w.frames)

abbrev pub frame_of : ℕ → Hearing → List ℕ
frame_of n h = line_of (Line.Frame (said_of n h))

abbrev pub last_of : Counts → List ℕ
last_of c = line_of (Line.Last c.repaired c.breaks)

-- a line for each of the first k frames, heard one after the other from a state on
unfoldable pub lines_to : State → List (List ℕ) → ℕ → List ℕ
lines_to before frames zero = []
lines_to before frames (suc k) = lines_to before frames k ++ frame_of (suc k) (frame_heard before frames (suc k))

-- after the first line: the lines of all frames, and their counts
unfoldable pub body_of : State → List (List ℕ) → List ℕ
body_of before frames = lines_to before frames (length frames) ++ last_of (counts_of before frames)

-- a sound recording: the first line, and then the frames, from a fresh state on
unfoldable pub sound_text : Walk → List (List ℕ) → List ℕ
sound_text walk frames = head_of walk ++ body_of fresh_state frames

-- a refused recording prints only that
abbrev pub text_by : Ending → List ℕ → List ℕ
text_by (Ok _) text = text
text_by (Err cause) text = line_of (Line.Refused cause)

-- any bytes
unfoldable pub listing_of : List ℕ → List ℕ
listing_of s = text_by (walked_of s).ending (sound_text (walked_of s).walk (frames_of s))

-- the lent buffer has room for every listing
abbrev pub room : ℕ
room = 131072

unfoldable pub listed_of : List ℕ → ℕ → Result ℕ Unlisted
listed_of s n = cond (eqb n room) (Ok (length (listing_of s))) (Err WrongLength)

-- a buffer of that length holds the whole text from its start on, and after it what stood there; any other is as it was
unfoldable pub listing_left : List ℕ → List ℕ → List ℕ
listing_left s o = cond (eqb (length o) room) (listing_of s ++ drop (length (listing_of s)) o) o

-- the refusal numbers of document 01 and what each tells; 0 is no refusal
abbrev pub refusal_of : Result ℕ Unlisted → ℕ
refusal_of (Ok n) = 0
refusal_of (Err WrongLength) = 1

abbrev pub tells_of : Result ℕ Unlisted → List ℕ
tells_of (Ok n) = []
tells_of (Err WrongLength) = []

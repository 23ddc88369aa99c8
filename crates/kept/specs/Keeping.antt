-- What is kept of a damaged recording (document 02, K2): "the head, every voice block before the first refusal and,
-- where that refusal is a voice block running past the end, the whole frames that block still has; last frames go, as
-- few as will do, if the result would pass 65,536 bytes, and no empty block is left."
use Rattle.std.specs.Prelude.{cond, List, [], ◌∷◌, ◌++◌, ℕ, zero, suc, ◌+◌, ◌-◌, ◌*◌, ◌/◌, eqb, leb, length, take, Ok, Err}
use Rattle.blocks.specs.Blocks.{kind_at, part}
use Rattle.blocks.specs.Walk.{longest, after_head, walked_of}
use Rattle.blocks.specs.Frames.{voices_from, frames_in}
use Rattle.blocks.specs.Made.{made}
use Rattle.blocks.specs.declared.Cause.{Cause}
use Rattle.blocks.specs.declared.Cause.TheVariants.{TooLong, HeaderCut, PastEnd, WrongSize, UnknownKind}
use Rattle.blocks.specs.declared.Cause.TheVariants.{OutOfTurn, EndMissing, WrongCount, Extra}
use Rattle.blocks.specs.Walk.{Ending}
use Rattle.blocks.specs.declared.Heading.{Heading}

-- how many whole frames the block at a place, which runs past the end, still has: a voice block as many as stand after
-- its header, whatever its length says; a block of another kind none
unfoldable pub frames_left : List ℕ → ℕ → ℕ
frames_left s at = cond (eqb (kind_at s at) 2) ((length s - (at + 6)) / 18) 0

-- so where that is the refusal; any other leaves none
abbrev pub left_by : List ℕ → Cause → ℕ
left_by s TooLong = 0
left_by s (HeaderCut p) = 0
left_by s (PastEnd p) = frames_left s p
left_by s (WrongSize p size) = 0
left_by s (UnknownKind p) = 0
left_by s (OutOfTurn p) = 0
left_by s (EndMissing p) = 0
left_by s (WrongCount p) = 0
left_by s (Extra p) = 0

abbrev pub left_at : List ℕ → Ending → ℕ
left_at s (Ok _) = 0
left_at s (Err cause) = left_by s cause

-- n frames after the header at a place, as one payload; no empty block is left
abbrev pub frames_at : List ℕ → ℕ → ℕ → List (List ℕ)
frames_at s at zero = []
frames_at s at (suc n) = part s (at + 6) (18 * suc n) ∷ []

-- the payloads that can be kept: the voice blocks before the first refusal, and what is left of the block at which it
-- is given
unfoldable pub kept_of : List ℕ → List (List ℕ)
kept_of s = voices_from s (after_head 0) ++ frames_at s (walked_of s).walk.at (left_at s (walked_of s).ending)

-- the first n frames of some payloads, each in its own block; no empty block is left
unfoldable pub first_frames : List (List ℕ) → ℕ → List (List ℕ)
first_frames [] n = []
first_frames (p ∷ ps) zero = []
first_frames (p ∷ ps) (suc n) = take (18 * suc n) p ∷ first_frames ps (suc n - length p / 18)

-- the most frames, n at most, with which a head, their blocks and a fresh end fit
unfoldable pub most_of : Heading → List (List ℕ) → ℕ → ℕ
most_of heading ps zero = zero
most_of heading ps (suc n) =
    cond (leb (length (made heading (first_frames ps (suc n)))) longest) (suc n) (most_of heading ps n)

-- as many frames of all that can be kept are kept as fit, so that last frames go, as few as will do
unfoldable pub frames_kept : List ℕ → ℕ
frames_kept s = most_of (walked_of s).walk.heading (kept_of s) (length (frames_in (kept_of s)))

unfoldable pub voices_kept : List ℕ → List (List ℕ)
voices_kept s = first_frames (kept_of s) (frames_kept s)

-- What a sync break is, and what lost frames are counted as (document 02, K4: "One lost frame is one break").
use Rattle.std.specs.Prelude.{◌≡◌, List, ◌++◌, ◌↔◌, ℕ, suc, ◌+◌, ◌%◌, ◌<◌, ◌≤◌, length, take, drop, None, Some, Ok}
use Rattle.frame.specs.Answers.{reading_of}
use Rattle.values.specs.declared.State.{State}
use Rattle.blocks.specs.Frames.{frames_of}
use Rattle.passes.specs.Counted.{frame_at, break_at}
use Rattle.passes.specs.Pass.{state_through}
use Rattle.recording.specs.Judged.{judged_of}
use Rattle.recording.specs.declared.Summary.{Summary}

-- the SY of frame n, counted from 1
abbrev pub sync_of : List (List ℕ) → ℕ → ℕ
sync_of frames n = (reading_of (frame_at frames n)).indices.sy

-- frame n is a break, after a state, ours or not: "a frame whose SY equals that of the frame before it, or a first
-- frame whose SY is 1"
pub data Breaks (before : State) (frames : List (List ℕ)) : ℕ → Type 0 where
  first_of_all : before.last ≡ None → sync_of frames 1 ≡ 1 → Breaks before frames 1
  first_here : before.last ≡ Some (sync_of frames 1) → Breaks before frames 1
  later : (n : ℕ) → 1 ≤ n → sync_of frames (suc n) ≡ sync_of frames n → Breaks before frames (suc n)

-- what a frame adds to the count is 1 for a break and 0 for any other
unfoldable pub BreakExactly : Type 0
BreakExactly =
    (before : State) (frames : List (List ℕ)) (n : ℕ) → 1 ≤ n
    → ((break_at before frames n ≡ 1) ↔ Breaks before frames n) × (break_at before frames n ≤ 1)

-- "The running state keeps the last SY": after the first frames of a recording, in whichever voice blocks, it is that
-- of the last of them, refused with 6 or not
unfoldable pub SyncRunsOn : Type 0
SyncRunsOn =
    (before : State) (s : List ℕ) (k : ℕ) → 1 ≤ k → k ≤ length (frames_of s)
    → (state_through before (take k (frames_of s))).last ≡ Some (sync_of (frames_of s) k)

-- of any sound recording frames that follow each other can be left out, but not all: what is left are the frames of a
-- sound recording
unfoldable pub LeftOut : Type 0
LeftOut =
    (s : List ℕ) (x : Summary) → judged_of s ≡ Ok x → (k m : ℕ) → 1 ≤ m → k + m ≤ length (frames_of s)
    → m < length (frames_of s)
    → (t : List ℕ) × (y : Summary) × (judged_of t ≡ Ok y)
    × (frames_of t ≡ take k (frames_of s) ++ drop (k + m) (frames_of s))

-- a recording without a break, of which the m frames after the first k were lost
pub record Lost (s t : List ℕ) (k m : ℕ) (x y : Summary) : Type 0 where
  pub whole : judged_of s ≡ Ok x
  pub unbroken : x.counts.breaks ≡ 0
  pub sound : judged_of t ≡ Ok y
  pub without : frames_of t ≡ take k (frames_of s) ++ drop (k + m) (frames_of s)

-- one that is neither the first nor the last: exactly one break
unfoldable pub OneLost : Type 0
OneLost =
    (s t : List ℕ) (k : ℕ) (x y : Summary) → Lost s t k 1 x y → 1 ≤ k → k + 1 < length (frames_of s)
    → y.counts.breaks ≡ 1

-- the first of several: one
unfoldable pub FirstLost : Type 0
FirstLost = (s t : List ℕ) (x y : Summary) → Lost s t 0 1 x y → 1 < length (frames_of s) → y.counts.breaks ≡ 1

-- the last: none
unfoldable pub LastLost : Type 0
LastLost = (s t : List ℕ) (k : ℕ) (x y : Summary) → Lost s t k 1 x y → k + 1 ≡ length (frames_of s)
    → y.counts.breaks ≡ 0

-- two that follow each other, wherever they stood: none
unfoldable pub TwoLost : Type 0
TwoLost = (s t : List ℕ) (k : ℕ) (x y : Summary) → Lost s t k 2 x y → k + 2 ≤ length (frames_of s)
    → y.counts.breaks ≡ 0

-- any number that follow each other: with a frame behind them an odd number is one break and an even number none; at
-- the end of the recording none, however many
unfoldable pub ManyLost : Type 0
ManyLost =
    (s t : List ℕ) (k m : ℕ) (x y : Summary) → Lost s t k m x y
    → (k + m < length (frames_of s) → y.counts.breaks ≡ m % 2)
    × (k + m ≡ length (frames_of s) → y.counts.breaks ≡ 0)

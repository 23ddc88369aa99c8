-- What is shown of a pass: it hears frame after frame, with the counts and the state of the frames so far alone.
use Rattle.std.specs.Prelude.{◌≡◌, List, [], ℕ, suc, ◌<◌, ◌≤◌, length, get_or, take}
use Rattle.frame.specs.Answers.{reading_of}
use Rattle.values.specs.declared.State.{State}
use Rattle.blocks.specs.Frames.{frames_of}
use Rattle.passes.specs.Counted.{counts_to, counts_of}
use Rattle.passes.specs.Pass.{hearing_of, no_hearing, state_through, frame_heard, next_of, pass_at}

-- from any start state, frame k + 1 is heard after the state that went through the k frames before it, across voice
-- blocks
abbrev pub StateRunsOn : Type 0
StateRunsOn =
    (before : State) (s : List ℕ) (k : ℕ) → k < length (frames_of s)
    → frame_heard before (frames_of s) (suc k) ≡ hearing_of (state_through before (take k (frames_of s)))
    (get_or (frames_of s) k [])

-- the answer that has a frame's values has its correction too, that of the frame read by itself, whatever came before
-- it and whether it is refused with 6 or not (document 02, K5)
abbrev pub CorrectionPassedOn : Type 0
CorrectionPassedOn =
    (before : State) (s : List ℕ) (k : ℕ) → k < length (frames_of s)
    → (frame_heard before (frames_of s) (suc k)).reading.correction ≡ (reading_of (get_or (frames_of s) k [])).correction

-- before the first there is nothing, and the state is as it came; past the last there is nothing, and it is the one
-- after all frames
abbrev pub NothingBeyond : Type 0
NothingBeyond =
    (before : State) (s : List ℕ)
    → (frame_heard before (frames_of s) 0 ≡ no_hearing before)
    × ((k : ℕ) → length (frames_of s) ≤ k → frame_heard before (frames_of s) (suc k)
    ≡ no_hearing (state_through before (frames_of s)))

-- the step after k steps of a pass hears frame k + 1
abbrev pub PassHears : Type 0
PassHears = (before : State) (s : List ℕ) (k : ℕ) → (next_of s (pass_at before s k)).hearing
    ≡ frame_heard before (frames_of s) (suc k)

-- after k steps the first k frames are counted; after the last step, and however many follow, all
abbrev pub PassCounts : Type 0
PassCounts =
    (before : State) (s : List ℕ) (k : ℕ)
    → (k ≤ length (frames_of s) → (pass_at before s k).counts ≡ counts_to before (frames_of s) k)
    × (length (frames_of s) ≤ k → (pass_at before s k).counts ≡ counts_of before (frames_of s))

-- two recordings with the same first k frames are heard alike up to there
abbrev pub SoFarAlone : Type 0
SoFarAlone =
    (before : State) (s t : List ℕ) (k : ℕ) → k ≤ length (frames_of s) → k ≤ length (frames_of t)
    → take k (frames_of s) ≡ take k (frames_of t) → frame_heard before (frames_of s) k ≡ frame_heard before (frames_of t) k

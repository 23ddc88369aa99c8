-- Going through the frames of a recording: what is heard of each, after the state that went through every frame before
-- it, and what is counted on the way.
use Rattle.std.specs.Prelude.{Option, Some, None, Bool, cond, List, [], ◌∷◌, ℕ, zero, suc, ◌+◌, leb, length, take, drop}
use Rattle.laws.specs.Table.{both}
use Rattle.frame.specs.Answers.{reading_of}
use Rattle.values.specs.Values.{nothing_heard, values_of}
use Rattle.values.specs.declared.State.{State}
use Rattle.blocks.specs.Blocks.{part}
use Rattle.blocks.specs.Walk.{longest, walked_of}
use Rattle.blocks.specs.Frames.{if_sound, found_at}
use Rattle.blocks.specs.declared.Found.{Found}
use Rattle.passes.specs.Counted.{counting}
use Rattle.passes.specs.declared.Hearing.{Hearing}
use Rattle.passes.specs.declared.Pass.{Pass}
use Rattle.passes.specs.declared.Step.{Step}

-- ---- what is heard

-- of any bytes taken for a frame, after a state: what is read in them, and the values of what was read
unfoldable pub hearing_of : State → List ℕ → Hearing
hearing_of before f = record { reading = reading_of f; values = values_of (reading_of f).indices before }

-- where there is no frame: nothing is read, there are no values, and the state is as it came
unfoldable pub no_hearing : State → Hearing
no_hearing before = record { reading = reading_of []; values = nothing_heard before }

-- LSP averaging runs on across voice blocks, and so does the last SY: the state after frames, one after the other
unfoldable pub state_through : State → List (List ℕ) → State
state_through before [] = before
state_through before (f ∷ fs) = state_through (hearing_of before f).values.state fs

-- the first of the frames that are left
abbrev pub first_heard : State → List (List ℕ) → Hearing
first_heard before [] = no_hearing before
first_heard before (f ∷ fs) = hearing_of before f

-- frame k, counted from 1, after the state that went through the frames before it
unfoldable pub frame_heard : State → List (List ℕ) → ℕ → Hearing
frame_heard before frames zero = no_hearing before
frame_heard before frames (suc k) = first_heard (state_through before (take k frames)) (drop k frames)

-- ---- a pass

-- before the frame at a place, with no frame passed
abbrev pub begun_at : ℕ → State → Pass
begun_at at before = record {
  at = at;
  left = 0;
  frames = 0;
  counts = record { repaired = 0; breaks = 0 };
  state =
      before;
}

-- before the first frame of a recording; at the end of one that is refused
unfoldable pub start_of : State → List ℕ → Pass
start_of before s = begun_at (if_sound (walked_of s).ending (walked_of s).walk.voices (length s)) before

-- a pass that was begun so has passed no more frames than a recording has bytes, and counted none of them twice
abbrev pub begun_here : Pass → Bool
begun_here p = both (leb p.frames longest) (both (leb p.counts.repaired p.frames)
    (leb p.counts.breaks p.frames))

-- where its next frame stands; any other pass is at its end
unfoldable pub ahead_of : List ℕ → Pass → Option Found
ahead_of s p = cond (begun_here p) (found_at s p.at p.left) None

-- past a frame that was heard, to the place after it
abbrev pub past_frame : Pass → Hearing → ℕ → ℕ → Pass
past_frame p h end left =
    record {
      at = end;
      left = left;
      frames = p.frames + 1;
      counts = counting p.counts p.state.last h.reading;
      state = h.values.state;
    }

-- one frame further
abbrev pub step_by : List ℕ → Pass → Option Found → Step
step_by s p (Some found) =
    record {
      hearing = hearing_of p.state (part s found.first 18);
      pass = past_frame p (hearing_of p.state (part s found.first 18)) (found.first + 18) found.rest;
    }
step_by s p None = record { hearing = no_hearing p.state; pass = p }

unfoldable pub next_of : List ℕ → Pass → Step
next_of s p = step_by s p (ahead_of s p)

-- the pass after k steps from the start
unfoldable pub pass_at : State → List ℕ → ℕ → Pass
pass_at before s zero = start_of before s
pass_at before s (suc k) = (next_of s (pass_at before s k)).pass

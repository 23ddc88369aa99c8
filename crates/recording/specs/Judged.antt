-- What is said of a whole recording: sound, with its counts of repaired frames and sync breaks from a fresh state on,
-- or refused.
use Rattle.std.specs.Prelude.{List, [], ℕ, Ok, Err, Result}
use Rattle.blocks.specs.declared.Cause.{Cause}
use Rattle.values.specs.Values.{fresh_state}
use Rattle.blocks.specs.Refusals.{refusal_of, tells_of}
use Rattle.blocks.specs.Walk.{walked_of}
use Rattle.blocks.specs.Frames.{frames_of}
use Rattle.blocks.specs.Walk.{Ending}
use Rattle.blocks.specs.declared.Walk.{Walk}
use Rattle.passes.specs.Counted.{counts_of}
use Rattle.passes.specs.declared.Counts.{Counts}
use Rattle.recording.specs.declared.Summary.{Summary}

-- what the blocks tell, and the counts
abbrev pub summary_of : Walk → Counts → Summary
summary_of walk counts = record { heading = walk.heading; frames = walk.frames; counts = counts }

abbrev pub judged_by : Ending → Summary → Result Summary Cause
judged_by (Ok _) summary = Ok summary
judged_by (Err cause) summary = Err cause

unfoldable pub judged_of : List ℕ → Result Summary Cause
judged_of s = judged_by (walked_of s).ending (summary_of (walked_of s).walk (counts_of fresh_state (frames_of s)))

-- the refusal of an answer and what it tells; 0 is no refusal
abbrev pub judged_refusal : Result Summary Cause → ℕ
judged_refusal (Ok summary) = 0
judged_refusal (Err cause) = refusal_of cause

abbrev pub judged_tells : Result Summary Cause → List ℕ
judged_tells (Ok summary) = []
judged_tells (Err cause) = tells_of cause

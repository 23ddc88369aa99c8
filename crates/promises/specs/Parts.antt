-- What is shown of the parts of a recording: where its voice blocks stand, that their frames are all its frames, and
-- its counts.
use Rattle.std.specs.Prelude.{◌≡◌, List, [], ◌∷◌, ◌++◌, ℕ, suc, ◌+◌, ◌*◌, ◌%◌, ◌<◌, ◌≤◌, length, get_or, take, Ok, Err}
use Rattle.laws.specs.Total.{total}
use Rattle.frame.specs.Answers.{reading_of}
use Rattle.values.specs.Values.{fresh_state}
use Rattle.blocks.specs.Blocks.{part}
use Rattle.blocks.specs.Walk.{after_head}
use Rattle.blocks.specs.Frames.{nowhere, span_of, payloads_of, voice_block_of, eighteens, frames_of}
use Rattle.blocks.specs.Made.{voice_blocks}
use Rattle.passes.specs.Counted.{repair_by, frame_at, break_at}
use Rattle.recording.specs.Judged.{judged_of}
use Rattle.blocks.specs.declared.Cause.{Cause}
use Rattle.blocks.specs.declared.Cause.TheVariants.{EndMissing}
use Rattle.recording.specs.declared.Summary.{Summary}

-- where the k-th payload begins: after the head, the voice blocks before it and its own header
abbrev pub payload_place : List (List ℕ) → ℕ → ℕ
payload_place ps k = after_head 0 + length (voice_blocks (take k ps)) + 6

-- the k-th voice block of a recording is that part of its bytes, of whole frames; it ends before the next begins, and
-- ten bytes for the end block come after it
pub record Stands (s : List ℕ) (k : ℕ) : Type 0 where
  pub from : (span_of s k).from ≡ payload_place (payloads_of s) k
  pub to : (span_of s k).to ≡ payload_place (payloads_of s) k + length (voice_block_of s k)
  pub holds : voice_block_of s k ≡ part s (payload_place (payloads_of s) k) (length (voice_block_of s k))
  pub positive : 0 < length (voice_block_of s k)
  pub whole : length (voice_block_of s k) % 18 ≡ 0
  pub apart : payload_place (payloads_of s) k + length (voice_block_of s k) + 6 ≡ payload_place (payloads_of s) (suc k)
  pub within : payload_place (payloads_of s) k + length (voice_block_of s k) + 10 ≤ length s

abbrev pub VoiceBlocksStand : Type 0
VoiceBlocksStand = (s : List ℕ) (k : ℕ) → k < length (payloads_of s) → Stands s k

-- where there is no such block, the answer is the empty part, from 0 to 0
abbrev pub NoSuchBlock : Type 0
NoSuchBlock = (s : List ℕ) (k : ℕ) → length (payloads_of s) ≤ k → (span_of s k ≡ nowhere) × (voice_block_of s k ≡ [])

-- the frames of the voice blocks one after the other are all the frames: the payloads put together and cut
unfoldable pub joined : List (List ℕ) → List ℕ
joined [] = []
joined (p ∷ ps) = p ++ joined ps

abbrev pub FramesAreAll : Type 0
FramesAreAll = (s : List ℕ) → frames_of s ≡ eighteens (joined (payloads_of s))

-- each is eighteen bytes, and all of them are within the bytes
abbrev pub FramesAreLong : Type 0
FramesAreLong = (s : List ℕ) (k : ℕ) → k < length (frames_of s) → length (get_or (frames_of s) k []) ≡ 18

abbrev pub FramesFit : Type 0
FramesFit = (s : List ℕ) → 18 * length (frames_of s) ≤ length s

-- the end block's number is their count
abbrev pub EndCounts : Type 0
EndCounts = (s : List ℕ) (x : Summary) → judged_of s ≡ Ok x → x.frames ≡ length (frames_of s)

-- the counts are sums over all frame numbers, counted from 1: 1 for a repaired frame, which is one whose correction is
-- a data hit, or for a break, from a fresh state on (Breaks.antt says what a break is)
abbrev pub RepairsCounted : Type 0
RepairsCounted =
    (s : List ℕ) (x : Summary) → judged_of s ≡ Ok x
    → x.counts.repaired ≡ total (λ n. repair_by (reading_of (frame_at (frames_of s) n))) (length (frames_of s))

abbrev pub BreaksCounted : Type 0
BreaksCounted =
    (s : List ℕ) (x : Summary) → judged_of s ≡ Ok x
    → x.counts.breaks ≡ total (break_at fresh_state (frames_of s)) (length (frames_of s))

-- a refused recording has no voice block, also none before the damage, and no frame
abbrev pub RefusedHasNone : Type 0
RefusedHasNone =
    (s : List ℕ) (c : Cause) → judged_of s ≡ Err c
    → ((k : ℕ) → (span_of s k ≡ nowhere) × (voice_block_of s k ≡ [])) × (frames_of s ≡ [])

-- an empty recording is refused 8 at 0
abbrev pub EmptyRefused : Type 0
EmptyRefused = judged_of [] ≡ Err (EndMissing 0)

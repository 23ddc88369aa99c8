-- What the steps of `salvage` lay and answer.
use Rattle.std.specs.Prelude.{Bool, cond, List, ◌++◌, ℕ, ◌+◌, ◌-◌}
use Rattle.blocks.specs.Walk.{after_head}
use Rattle.blocks.specs.Frames.{voices_from}
use Rattle.blocks.specs.Made.{head_block, voice_blocks}
use Rattle.kept.specs.Keeping.{frames_at, first_frames}
use Rattle.kept.specs.declared.Keep.{Keep}
use Rattle.salvage.specs.declared.Changes.{Changes}
use Rattle.salvage.specs.declared.Salvaged.{Salvaged}
use Rattle.salvage.specs.declared.Salvaged.TheVariants.{Sound, Mended}

-- what is laid before the end block
unfoldable pub bytes_before : List ℕ → Keep → List ℕ
bytes_before s k =
    head_block k.heading
    ++ (voice_blocks (first_frames (voices_from s (after_head 0)) k.frames)
    ++ voice_blocks (frames_at s k.at k.rest))

-- the changes in so many bytes, with so many frames and the end block at a place
abbrev pub changes_by : ℕ → ℕ → ℕ → Changes
changes_by long frames end =
    record { dropped = long - end; from = end; frames = frames; end = end; long = end + 10 }

abbrev pub answer_by : ℕ → ℕ → ℕ → Bool → Salvaged
answer_by long frames end sound = cond sound Sound (Mended (changes_by long frames end))

-- The format described once, by how its bytes are made (`Made` of blocks); what is sound is what is made so.
use Rattle.std.specs.Prelude.{◌≡◌, List, ℕ, length, Ok}
use Rattle.values.specs.Values.{fresh_state}
use Rattle.blocks.specs.Frames.{payloads_of, frames_in}
use Rattle.blocks.specs.Made.{MadeFrom, Bytes}
use Rattle.blocks.specs.declared.Heading.{Heading}
use Rattle.passes.specs.Counted.{counts_of}
use Rattle.recording.specs.Judged.{judged_of}
use Rattle.recording.specs.declared.Summary.{Summary}

-- what is said of a recording made so
abbrev pub made_summary : Heading → List (List ℕ) → Summary
made_summary heading ps =
    record { heading = heading; frames = length (frames_in ps); counts = counts_of fresh_state (frames_in ps) }

-- bytes made so are sound, and the answer is just what they were made from
abbrev pub MadeIsSound : Type 0
MadeIsSound =
    (s : List ℕ) (heading : Heading) (ps : List (List ℕ)) → MadeFrom s heading ps
    → (judged_of s ≡ Ok (made_summary heading ps)) × (payloads_of s ≡ ps)

-- and every byte string that is sound is made so
abbrev pub SoundIsMade : Type 0
SoundIsMade = (s : List ℕ) (x : Summary) → Bytes s → judged_of s ≡ Ok x → MadeFrom s x.heading (payloads_of s)

-- so no byte string means two recordings
abbrev pub NoTwo : Type 0
NoTwo =
    (s : List ℕ) (h k : Heading) (ps qs : List (List ℕ)) → MadeFrom s h ps → MadeFrom s k qs → (h ≡ k) × (ps ≡ qs)

-- The format described once, by how its bytes are made (document 01, "Recordings"); what is walked through to a sound
-- end is what is made so.
use Rattle.std.specs.Prelude.{◌≡◌, true, List, [], ◌∷◌, ◌++◌, ℕ, ◌+◌, ◌/◌, ◌%◌, ◌<◌, ◌≤◌, length, get_or, Ok}
use Rattle.blocks.specs.Walk.{longest, after_head, stopped, walked_of}
use Rattle.blocks.specs.Frames.{payloads_of, frames_in}
use Rattle.blocks.specs.declared.Heading.{Heading}
use Rattle.blocks.specs.declared.Walk.{Walk}

-- a number in two and in four bytes, the lowest first
abbrev pub pair_bytes : ℕ → List ℕ
pair_bytes n = n % 256 ∷ n / 256 ∷ []

abbrev pub word_bytes : ℕ → List ℕ
word_bytes n = n % 256 ∷ n / 256 % 256 ∷ n / 256 / 256 % 256 ∷ n / 256 / 256 / 256 ∷ []

-- a block is a payload length, a kind, the payload
abbrev pub block : ℕ → List ℕ → List ℕ
block kind payload = word_bytes (length payload) ++ (pair_bytes kind ++ payload)

-- a head holds unit and recording number, a voice block frames, an end the number of frames
abbrev pub head_block : Heading → List ℕ
head_block heading = block 1 (word_bytes heading.unit ++ word_bytes heading.number)

unfoldable pub voice_blocks : List (List ℕ) → List ℕ
voice_blocks [] = []
voice_blocks (p ∷ ps) = block 2 p ++ voice_blocks ps

abbrev pub end_block : ℕ → List ℕ
end_block frames = block 3 (word_bytes frames)

-- one head, the voice blocks, one end with the number of their frames, nothing after
unfoldable pub made : Heading → List (List ℕ) → List ℕ
made heading ps = head_block heading ++ (voice_blocks ps ++ end_block (length (frames_in ps)))

-- at most 65,536 bytes, one or more voice blocks, each a positive multiple of 18
pub record MadeFrom (s : List ℕ) (heading : Heading) (ps : List (List ℕ)) : Type 0 where
  pub is : s ≡ made heading ps
  pub short : length s ≤ longest
  pub some : 0 < length ps
  pub positive : (k : ℕ) → k < length ps → 0 < length (get_or ps k [])
  pub whole : (k : ℕ) → k < length ps → length (get_or ps k []) % 18 ≡ 0

-- the walk past a head and these voice blocks
abbrev pub walk_over : Heading → List (List ℕ) → Walk
walk_over heading ps =
    record {
      at = after_head 0 + length (voice_blocks ps);
      headed = true;
      heading = heading;
      voices = after_head 0;
      frames = length (frames_in ps);
    }

-- bytes made so are walked through to a sound end, past just what they were made from
abbrev pub MadeIsWalked : Type 0
MadeIsWalked =
    (s : List ℕ) (heading : Heading) (ps : List (List ℕ)) → MadeFrom s heading ps
    → (walked_of s ≡ stopped (walk_over heading ps) (Ok tt)) × (payloads_of s ≡ ps)

-- and every byte string that is walked through to a sound end is made so, from what was passed
abbrev pub Bytes : List ℕ → Type 0
Bytes s = (i : ℕ) → get_or s i 0 < 256

abbrev pub WalkedIsMade : Type 0
WalkedIsMade =
    (s : List ℕ) → Bytes s → (walked_of s).ending ≡ Ok tt → MadeFrom s (walked_of s).walk.heading (payloads_of s)

-- The voice blocks of a recording and the frames in them.
use Rattle.std.specs.Prelude.{Option, Some, None, Result, List, [], ◌∷◌, ◌++◌, map, ℕ, zero, suc, ◌+◌, ◌-◌, ◌/◌, cond, eqb, leb, length, get_or, take, drop, Ok, Err}
use Rattle.laws.specs.Turns.{turns}
use Rattle.laws.specs.Unless.{unless}
use Rattle.blocks.specs.Blocks.{block_at, part}
use Rattle.blocks.specs.Walk.{walked_of, Ending}
use Rattle.blocks.specs.declared.Cause.{Cause}
use Rattle.blocks.specs.declared.Block.{Block}
use Rattle.blocks.specs.declared.Block.TheVariants.{Head, Voice, End}
use Rattle.blocks.specs.declared.Found.{Found}
use Rattle.blocks.specs.declared.Span.{Span}

-- the payload's size of the voice block at a place; 0 where there is none
abbrev pub voice_in : Result Block Cause → ℕ
voice_in (Ok (Head heading)) = 0
voice_in (Ok (Voice size)) = size
voice_in (Ok (End told)) = 0
voice_in (Err cause) = 0

unfoldable pub voice_size : List ℕ → ℕ → ℕ
voice_size s at = voice_in (block_at s at)

-- where the payloads of the voice blocks stand, from a place on, one block after the other
abbrev pub span_at : ℕ → ℕ → Span
span_at at size = record { from = at + 6; to = at + 6 + size }

abbrev pub spans_with : (ℕ → List Span) → ℕ → ℕ → List Span
spans_with further at size = cond (eqb size 0) [] (span_at at size ∷ further (at + 6 + size))

unfoldable pub spans_from : List ℕ → ℕ → List Span
spans_from s = turns [] (λ further at. spans_with further at (voice_size s at)) (suc (length s))

-- those of a recording: a refused one has none
abbrev pub if_sound : {A : Type 0} → Ending → A → A → A
if_sound (Ok _) a b = a
if_sound (Err cause) a b = b

unfoldable pub spans_of : List ℕ → List Span
spans_of s = if_sound (walked_of s).ending (spans_from s (walked_of s).walk.voices) []

-- that of the k-th voice block, counted from 0; from 0 to 0 says refused or no such block
abbrev pub nowhere : Span
nowhere = record { from = 0; to = 0 }

unfoldable pub span_of : List ℕ → ℕ → Span
span_of s k = get_or (spans_of s) k nowhere

-- the bytes that stand there
abbrev pub bytes_at : List ℕ → Span → List ℕ
bytes_at s r = part s r.from (r.to - r.from)

unfoldable pub voices_from : List ℕ → ℕ → List (List ℕ)
voices_from s at = map (bytes_at s) (spans_from s at)

unfoldable pub payloads_of : List ℕ → List (List ℕ)
payloads_of s = map (bytes_at s) (spans_of s)

-- the payload of the k-th voice block; the empty part says refused or no such block
unfoldable pub voice_block_of : List ℕ → ℕ → List ℕ
voice_block_of s k = bytes_at s (span_of s k)

-- a place in the bytes that a reference points to: in the same buffer, so many bytes on
abbrev pub bytes_on : ℕ × ℕ → ℕ → ℕ × ℕ
bytes_on p n = (p.0, n + p.1)

-- a payload cut into its frames of eighteen bytes
unfoldable pub cut : ℕ → List ℕ → List (List ℕ)
cut zero p = []
cut (suc n) p = take 18 p ∷ cut n (drop 18 p)

abbrev pub eighteens : List ℕ → List (List ℕ)
eighteens p = cut (length p / 18) p

-- the frames of the payloads, one after the other
unfoldable pub frames_in : List (List ℕ) → List (List ℕ)
frames_in [] = []
frames_in (p ∷ ps) = eighteens p ++ frames_in ps

-- all frames of a recording
unfoldable pub frames_of : List ℕ → List (List ℕ)
frames_of s = frames_in (payloads_of s)

-- the next frame from a place on, with so many bytes left of a voice block; with none left, the first of the voice
-- block there
unfoldable pub found_at : List ℕ → ℕ → ℕ → Option Found
found_at s at left =
    cond (eqb left 0) (cond (eqb (voice_size s at) 0) None (Some (record { first = at + 6; rest = voice_size s at - 18 })))
    (unless (leb 18 left) None
    (unless (leb (at + 18) (length s)) None (Some (record { first = at; rest = left - 18 }))))

-- the frames found one after the other
abbrev pub frames_with : List ℕ → (ℕ × ℕ → List (List ℕ)) → Option Found → List (List ℕ)
frames_with s further (Some found) = part s found.first 18 ∷ further (found.first + 18, found.rest)
frames_with s further None = []

unfoldable pub frames_from : List ℕ → ℕ → ℕ → List (List ℕ)
frames_from s at left =
    turns [] (λ further p. frames_with s further (found_at s p.0 p.1)) (suc (length s)) (at, left)

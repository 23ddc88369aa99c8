-- What holds of every salvaging (document 02, K2).
use Rattle.std.specs.Prelude.{◌≡◌, List, [], ◌++◌, map, ◌⊎◌, ◌↔◌, ℕ, suc, ◌+◌, ◌<◌, ◌≤◌, length, get_or, take, drop, Ok}
use Rattle.blocks.specs.Blocks.{block_at}
use Rattle.blocks.specs.Walk.{longest, after_head, walked_of}
use Rattle.blocks.specs.Frames.{bytes_at, voices_from, spans_of, payloads_of, frames_in, frames_of}
use Rattle.blocks.specs.Made.{Bytes, voice_blocks, made}
use Rattle.blocks.specs.declared.Block.TheVariants.{Head}
use Rattle.blocks.specs.declared.Heading.{Heading}
use Rattle.kept.specs.Keeping.{kept_of, first_frames, frames_kept}
use Rattle.salvage.specs.Salvaging.{result_of, changes_of, salvage_of, buffer_of, refusal_of, tells_of}
use Rattle.salvage.specs.declared.Salvaged.TheVariants.{Sound}

-- nothing is refused
abbrev pub Salvages : List ℕ → ℕ → Type 0
Salvages s room = refusal_of (salvage_of s room) ≡ 0

-- refused 1 exactly when the input is too long or the lent buffer is another, and then 12 exactly when no head or no
-- whole frame can be kept; neither tells anything
unfoldable pub SalvageRefuses : Type 0
SalvageRefuses =
    (s : List ℕ) (room : ℕ)
    → ((refusal_of (salvage_of s room) ≡ 1) ↔ ((longest < length s) ⊎ (room ≡ longest → ⊥)))
    × ((refusal_of (salvage_of s room) ≡ 12)
    ↔ (((length s ≤ longest) × (room ≡ longest))
    × (((heading : Heading) → block_at s 0 ≡ Ok (Head heading) → ⊥) ⊎ (frames_in (kept_of s) ≡ []))))
    × (tells_of (salvage_of s room) ≡ [])

-- a refusal writes nothing; else the result stands in the buffer, and the bytes past its end block are as they were
unfoldable pub SalvageStands : Type 0
SalvageStands =
    (s o : List ℕ)
    → ((Salvages s (length o) → ⊥) → buffer_of s o ≡ o)
    × (Salvages s (length o) → buffer_of s o ≡ result_of s ++ drop (length (result_of s)) o)

-- what is written is always accepted, with the unit and the number of the head that the input begins with; its frames
-- are the first frames, in order, of what can be kept
unfoldable pub SalvagedAccepted : Type 0
SalvagedAccepted =
    (s : List ℕ) (room : ℕ) → Salvages s room
    → ((walked_of (result_of s)).ending ≡ Ok tt)
    × (block_at s 0 ≡ Ok (Head (walked_of (result_of s)).walk.heading))
    × (frames_of (result_of s) ≡ take (frames_kept s) (frames_in (kept_of s)))
    × (length (frames_of (result_of s)) ≡ frames_kept s)

-- what can be kept begins with the voice blocks up to the block at which the first refusal is given
unfoldable pub KeptUpToRefusal : Type 0
KeptUpToRefusal =
    (s : List ℕ) (room : ℕ) → Salvages s room
    → ((walked_of s).walk.at ≡ after_head 0 + length (voice_blocks (voices_from s (after_head 0))))
    × ((walked_of s).walk.frames ≡ length (frames_in (voices_from s (after_head 0))))

-- a sound recording is answered as sound, exactly such a one, and comes out unchanged
unfoldable pub SoundUnchanged : Type 0
SoundUnchanged =
    (s : List ℕ)
    → ((salvage_of s longest ≡ Ok Sound) ↔ ((walked_of s).ending ≡ Ok tt))
    × (Bytes s → (walked_of s).ending ≡ Ok tt → result_of s ≡ s)

-- salvaging again changes nothing
unfoldable pub SalvagedAgain : Type 0
SalvagedAgain =
    (s : List ℕ) (room : ℕ) → Salvages s room
    → (salvage_of (result_of s) longest ≡ Ok Sound) × (result_of (result_of s) ≡ result_of s)

-- last frames go, as few as will do: with one more the result would pass 65,536 bytes. No more than one ever goes,
-- since only the fresh end can be too much, and one is always kept.
unfoldable pub FewestGo : Type 0
FewestGo =
    (s : List ℕ) (room : ℕ) → Salvages s room
    → (length (result_of s) ≤ longest)
    × (frames_kept s < length (frames_in (kept_of s))
    → longest < length (made (walked_of s).walk.heading (first_frames (kept_of s) (suc (frames_kept s)))))
    × (length (frames_in (kept_of s)) ≤ suc (frames_kept s)) × (0 < frames_kept s)

-- no empty block is left
unfoldable pub NoEmptyBlock : Type 0
NoEmptyBlock =
    (s : List ℕ) (room k : ℕ) → Salvages s room → k < length (payloads_of (result_of s))
    → 0 < length (get_or (payloads_of (result_of s)) k [])

-- each kept block stands where it stood in the input, so what is dropped is all that comes after the last kept frame
unfoldable pub KeptStands : Type 0
KeptStands =
    (s : List ℕ) (room : ℕ) → Salvages s room
    → (payloads_of (result_of s) ≡ map (bytes_at s) (spans_of (result_of s)))
    × ((changes_of s).from ≡ (walked_of (result_of s)).walk.at)
    × ((changes_of s).end ≡ (walked_of (result_of s)).walk.at)
    × ((changes_of s).from + (changes_of s).dropped ≡ length s)

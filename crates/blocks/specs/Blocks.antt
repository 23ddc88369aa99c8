-- Blocks (document 01, "Recordings"): a payload length (4 bytes, little-endian), a kind (2 bytes), the payload.
use Rattle.std.specs.Prelude.{Result, Bool, true, cond, List, ℕ, ◌+◌, ◌%◌, eqb, leb, ltb, length, take, drop, Ok, Err}
use Rattle.laws.specs.Bytes.{pair_at, word_at}
use Rattle.laws.specs.Table.{both}
use Rattle.laws.specs.Unless.{unless}
use Rattle.blocks.specs.declared.Cause.{Cause}
use Rattle.blocks.specs.declared.Cause.TheVariants.{HeaderCut, PastEnd, WrongSize, UnknownKind, EndMissing}
use Rattle.blocks.specs.declared.Heading.{Heading}
use Rattle.blocks.specs.declared.Block.{Block}
use Rattle.blocks.specs.declared.Block.TheVariants.{Head, Voice, End}

-- n bytes from a place on
abbrev pub part : List ℕ → ℕ → ℕ → List ℕ
part s at n = take n (drop at s)

-- of the block whose first byte stands at a place: its payload's size, its kind
abbrev pub size_at : List ℕ → ℕ → ℕ
size_at s at = word_at s at

abbrev pub kind_at : List ℕ → ℕ → ℕ
kind_at s at = pair_at s (at + 4)

-- Kind 1, head: 8 bytes. Kind 2, voice: a positive multiple of 18. Kind 3, end: 4 bytes. Another kind has no wrong
-- size.
unfoldable pub right_size : ℕ → ℕ → Bool
right_size kind size =
    cond (eqb kind 1) (eqb size 8)
    (cond (eqb kind 2) (both (ltb 0 size) (eqb (size % 18) 0))
    (cond (eqb kind 3) (eqb size 4) true))

-- a head holds unit and recording number, 4 bytes each; an end the number of frames
abbrev pub heading_at : List ℕ → ℕ → Heading
heading_at s at = record { unit = word_at s (at + 6); number = word_at s (at + 10) }

abbrev pub of_kind : List ℕ → ℕ → ℕ → Result Block Cause
of_kind s at kind =
    cond (eqb kind 1) (Ok (Head (heading_at s at)))
    (cond (eqb kind 2) (Ok (Voice (size_at s at)))
    (cond (eqb kind 3) (Ok (End (word_at s (at + 6)))) (Err (UnknownKind at))))

-- what stands at a place: a block, or why there is none; the refusals that one block can have by itself come in this
-- order: 9, 10, 11, then 8 (document 02, K1)
unfoldable pub block_at : List ℕ → ℕ → Result Block Cause
block_at s at =
    unless (ltb at (length s)) (Err (EndMissing (length s)))
    (unless (leb (at + 6) (length s)) (Err (HeaderCut at))
    (unless (leb (at + 6 + size_at s at) (length s)) (Err (PastEnd at))
    (unless (right_size (kind_at s at) (size_at s at)) (Err (WrongSize at (size_at s at)))
    (of_kind s at (kind_at s at)))))

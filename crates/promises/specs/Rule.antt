-- When a recording is refused, and by which refusal (document 01, "Refusal numbers"; document 02, K1): each is given
-- exactly when its condition is met and none earlier is.
use Rattle.std.specs.Prelude.{◌≡◌, Bool, true, false, not, cond, List, [], ◌∷◌, ◌↔◌, ℕ, ◌+◌, ◌<◌, ◌≤◌, eqb, ltb, length, Err, Ok}
use Rattle.laws.specs.Bytes.{word_at}
use Rattle.laws.specs.Place.{place_in}
use Rattle.blocks.specs.Blocks.{size_at, kind_at, right_size, heading_at}
use Rattle.blocks.specs.Walk.{longest, past_head_of, past_voice_of, at_start, walked_of}
use Rattle.recording.specs.Judged.{judged_of}
use Rattle.blocks.specs.Refusals.{refusal_of}
use Rattle.blocks.specs.declared.Cause.{Cause}
use Rattle.blocks.specs.declared.Cause.TheVariants.{TooLong, HeaderCut, PastEnd, WrongSize, UnknownKind}
use Rattle.blocks.specs.declared.Cause.TheVariants.{OutOfTurn, EndMissing, WrongCount, Extra}
use Rattle.blocks.specs.declared.Walk.{Walk}
use Rattle.recording.specs.declared.Summary.{Summary}

-- the kinds that there are
unfoldable pub known_kind : ℕ → Bool
known_kind kind = cond (eqb kind 1) true (cond (eqb kind 2) true (eqb kind 3))

-- one head, one or more voice blocks, one end: a block is in its turn
unfoldable pub in_turn : Walk → ℕ → Bool
in_turn w kind =
    cond (eqb kind 1) (not w.headed) (cond (eqb kind 2) w.headed (cond (eqb kind 3) (ltb 0 w.frames) true))

-- the condition of each refusal at the block that a walk has come to, with what is told: the place, and the payload size
-- where that is wrong for its kind
abbrev pub Condition : List ℕ → Walk → Cause → Type 0
Condition s w TooLong = longest < length s
Condition s w (HeaderCut p) = (p ≡ w.at) × (w.at < length s) × (length s < w.at + 6)
Condition s w (PastEnd p) = (p ≡ w.at) × (w.at + 6 ≤ length s) × (length s < w.at + 6 + size_at s w.at)
Condition s w (WrongSize p size) =
    (p ≡ w.at) × (size ≡ size_at s w.at) × (w.at + 6 ≤ length s)
    × (right_size (kind_at s w.at) (size_at s w.at) ≡ false)
Condition s w (UnknownKind p) = (p ≡ w.at) × (w.at + 6 ≤ length s) × (known_kind (kind_at s w.at) ≡ false)
Condition s w (OutOfTurn p) = (p ≡ w.at) × (w.at + 6 ≤ length s) × (in_turn w (kind_at s w.at) ≡ false)
Condition s w (EndMissing p) = (p ≡ length s) × (w.at ≡ length s)
Condition s w (WrongCount p) =
    (p ≡ w.at) × (w.at + 6 ≤ length s) × (kind_at s w.at ≡ 3) × (word_at s (w.at + 6) ≡ w.frames → ⊥)
Condition s w (Extra p) = (p ≡ w.at + 6 + 4) × (kind_at s w.at ≡ 3) × (w.at + 6 + 4 < length s)

-- the order in which they are tried at one block; a wrong end number comes before bytes after the end
abbrev pub order : Cause → ℕ
order TooLong = 0
order (HeaderCut p) = 1
order (PastEnd p) = 2
order (WrongSize p size) = 3
order (UnknownKind p) = 4
order (OutOfTurn p) = 5
order (EndMissing p) = 6
order (WrongCount p) = 7
order (Extra p) = 8

-- "1, then block by block" 9, 10, 11, "in that order, before 8" (K1): the numbers as they are tried at one block. The
-- causes come in the order of their numbers here.
abbrev pub tried : List ℕ
tried = 1 ∷ 9 ∷ 10 ∷ 11 ∷ 8 ∷ []

abbrev pub NumbersInTurn : Type 0
NumbersInTurn =
    (c d : Cause) → order c ≤ order d
    → (place_in (refusal_of c) tried ≤ place_in (refusal_of d) tried) × (place_in (refusal_of c) tried < length tried)

-- no refusal's condition is met; none is that comes before n
abbrev pub NoneMet : List ℕ → Walk → Type 0
NoneMet s w = (c : Cause) → Condition s w c → ⊥

abbrev pub ClearBefore : List ℕ → Walk → ℕ → Type 0
ClearBefore s w n = (c : Cause) → order c < n → Condition s w c → ⊥

-- block by block: where a walk comes that passes blocks at which no refusal's condition is met
pub data Reached (s : List ℕ) : Walk → Type 0 where
  at_first : Reached s at_start
  past_head : (w : Walk) → Reached s w → NoneMet s w → kind_at s w.at ≡ 1
      → Reached s (past_head_of w (heading_at s w.at))
  past_voice : (w : Walk) → Reached s w → NoneMet s w → kind_at s w.at ≡ 2
      → Reached s (past_voice_of w (size_at s w.at))

-- a refusal's condition is met at a block that is reached, and none earlier is
pub record Given (s : List ℕ) (c : Cause) : Type 0 where
  pub walk : Walk
  pub reached : Reached s walk
  pub here : Condition s walk c
  pub first : ClearBefore s walk (order c)

-- an end block is reached, and no refusal's condition is met there
pub record Accepted (s : List ℕ) : Type 0 where
  pub walk : Walk
  pub reached : Reached s walk
  pub clean : NoneMet s walk
  pub end : kind_at s walk.at ≡ 3

abbrev pub RefusedExactly : Type 0
RefusedExactly = (s : List ℕ) (c : Cause) → (judged_of s ≡ Err c) ↔ Given s c

-- what 9, 10 and 11 tell of the bytes from the place on: they are fewer than a header; the header is whole, and its
-- length runs past the end; the header and its payload are whole, and the size that is told is the header's and wrong
-- for its kind (K1)
abbrev pub BlockFaultsTold : Type 0
BlockFaultsTold =
    (s : List ℕ) (p size : ℕ)
    → (judged_of s ≡ Err (HeaderCut p) → (p < length s) × (length s < p + 6))
    × (judged_of s ≡ Err (PastEnd p) → (p + 6 ≤ length s) × (length s < p + 6 + size_at s p))
    × (judged_of s ≡ Err (WrongSize p size)
    → (size ≡ size_at s p) × (p + 6 + size ≤ length s) × (right_size (kind_at s p) size ≡ false))

-- the walk that is answered with a refusal stands at a block at which it is given: what was passed before it is kept
abbrev pub RefusedKeeps : Type 0
RefusedKeeps =
    (s : List ℕ) (c : Cause) → (walked_of s).ending ≡ Err c → (g : Given s c) × (g.walk ≡ (walked_of s).walk)

abbrev pub SoundExactly : Type 0
SoundExactly = (s : List ℕ) → ((x : Summary) × (judged_of s ≡ Ok x)) ↔ Accepted s

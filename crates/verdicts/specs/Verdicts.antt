-- A recording's verdict as numbers, for C: "Refusals are minus their number, as the reader's; what a refusal tells goes
-- into a lent number where there is something to tell."
use Rattle.std.specs.Prelude.{cond, List, [], ◌∷◌, ℕ, ltb, ℤ, pos, neg_ℤ, Ok, Err}
use Rattle.blocks.specs.Walk.{walked_of}
use Rattle.blocks.specs.Refusals.{told_of, walked_refusal}
use Rattle.blocks.specs.declared.Cause.{Cause}
use Rattle.blocks.specs.declared.Cause.TheVariants.{TooLong, HeaderCut, PastEnd, WrongSize, UnknownKind}
use Rattle.blocks.specs.declared.Cause.TheVariants.{OutOfTurn, EndMissing, WrongCount, Extra}
use Rattle.blocks.specs.Walk.{Ending}
use Rattle.blocks.specs.declared.Heading.{Heading}
use Rattle.blocks.specs.declared.Told.{Told}
use Rattle.blocks.specs.declared.Told.TheVariants.{Nothing, Place, PlaceAndSize}

-- a refusal is minus its number; 0 is no refusal
abbrev pub refused : ℕ → ℤ
refused n = neg_ℤ (pos n)

-- no number is over 15: one that is counts as 15
abbrev pub minus_of : ℕ → ℤ
minus_of n = cond (ltb 15 n) (refused 15) (refused n)

unfoldable pub verdict_of : List ℕ → ℤ
verdict_of s = refused (walked_refusal (walked_of s))

-- which of the things is wrong that a number stands for
abbrev pub cause_number : Cause → ℕ
cause_number TooLong = 1
cause_number (HeaderCut p) = 2
cause_number (PastEnd p) = 3
cause_number (WrongSize p size) = 4
cause_number (UnknownKind p) = 5
cause_number (OutOfTurn p) = 6
cause_number (EndMissing p) = 7
cause_number (WrongCount p) = 8
cause_number (Extra p) = 9

-- five numbers are told: of a refused recording the place, the size and the cause, of a sound one unit and number; the
-- others are 0
abbrev pub refusal_told : Told → ℕ → List ℕ
refusal_told Nothing cause = 0 ∷ 0 ∷ 0 ∷ 0 ∷ cause ∷ []
refusal_told (Place p) cause = 0 ∷ 0 ∷ p ∷ 0 ∷ cause ∷ []
refusal_told (PlaceAndSize p size) cause = 0 ∷ 0 ∷ p ∷ size ∷ cause ∷ []

abbrev pub ending_told : Ending → Heading → List ℕ
ending_told (Ok _) heading = heading.unit ∷ heading.number ∷ 0 ∷ 0 ∷ 0 ∷ []
ending_told (Err cause) heading = refusal_told (told_of cause) (cause_number cause)

unfoldable pub recording_told : List ℕ → List ℕ
recording_told s = ending_told (walked_of s).ending (walked_of s).walk.heading

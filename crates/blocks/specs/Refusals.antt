-- The refusals of a recording (document 01, "Refusal numbers"; document 02, K1): the number of each cause, and what it
-- tells.
use Rattle.std.specs.Prelude.{List, [], ◌∷◌, ℕ, Ok, Err}
use Rattle.blocks.specs.declared.Cause.{Cause}
use Rattle.blocks.specs.declared.Cause.TheVariants.{TooLong, HeaderCut, PastEnd, WrongSize, UnknownKind}
use Rattle.blocks.specs.declared.Cause.TheVariants.{OutOfTurn, EndMissing, WrongCount, Extra}
use Rattle.blocks.specs.declared.Told.{Told}
use Rattle.blocks.specs.declared.Told.TheVariants.{Nothing, Place, PlaceAndSize}
use Rattle.blocks.specs.Walk.{Ending}
use Rattle.blocks.specs.declared.Walked.{Walked}

-- 9: header cut; 10: length running past the end; 11: payload size wrong for its kind (K1)
abbrev pub refusal_of : Cause → ℕ
refusal_of TooLong = 1
refusal_of (HeaderCut p) = 9
refusal_of (PastEnd p) = 10
refusal_of (WrongSize p size) = 11
refusal_of (UnknownKind p) = 8
refusal_of (OutOfTurn p) = 8
refusal_of (EndMissing p) = 8
refusal_of (WrongCount p) = 8
refusal_of (Extra p) = 8

-- a place, and with 11 the payload size too (K1)
abbrev pub told_of : Cause → Told
told_of TooLong = Nothing
told_of (HeaderCut p) = Place p
told_of (PastEnd p) = Place p
told_of (WrongSize p size) = PlaceAndSize p size
told_of (UnknownKind p) = Place p
told_of (OutOfTurn p) = Place p
told_of (EndMissing p) = Place p
told_of (WrongCount p) = Place p
told_of (Extra p) = Place p

-- the numbers that are told
abbrev pub numbers_told : Told → List ℕ
numbers_told Nothing = []
numbers_told (Place p) = p ∷ []
numbers_told (PlaceAndSize p size) = p ∷ size ∷ []

abbrev pub tells_of : Cause → List ℕ
tells_of cause = numbers_told (told_of cause)

-- of an answer; 0 is no refusal
abbrev pub ending_refusal : Ending → ℕ
ending_refusal (Ok _) = 0
ending_refusal (Err cause) = refusal_of cause

abbrev pub ending_tells : Ending → List ℕ
ending_tells (Ok _) = []
ending_tells (Err cause) = tells_of cause

abbrev pub walked_refusal : Walked → ℕ
walked_refusal walked = ending_refusal walked.ending

abbrev pub walked_tells : Walked → List ℕ
walked_tells walked = ending_tells walked.ending

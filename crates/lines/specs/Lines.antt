-- The lines of a listing (document 01, "The listing program"; document 02, K5). Fields are one space apart and each
-- line ends in a newline.
use Rattle.std.specs.Prelude.{cond, List, [], ◌∷◌, ◌++◌, ℕ, eqb}
use Rattle.frame.specs.Correction.{number_of_case}
use Rattle.frame.specs.declared.Correction.{Correction}
use Rattle.frame.specs.declared.Correction.TheVariants.{Clean, Parity, Data}
use Rattle.blocks.specs.Walk.{longest}
use Rattle.blocks.specs.Refusals.{refusal_of, told_of}
use Rattle.blocks.specs.declared.Cause.{Cause}
use Rattle.blocks.specs.declared.Heading.{Heading}
use Rattle.blocks.specs.declared.Told.{Told}
use Rattle.blocks.specs.declared.Told.TheVariants.{Nothing, Place, PlaceAndSize}
use Rattle.text.specs.Ascii.{ascii}
use Rattle.text.specs.Decimal.{decimal}
use Rattle.lines.specs.declared.Line.{Line}
use Rattle.lines.specs.declared.Line.TheVariants.{Head, Frame, Last, Refused}
use Rattle.lines.specs.declared.Said.{Said}

-- a word and the number that it tells, and a line of two such
abbrev pub told : List ℕ → ℕ → List ℕ
told word n = word ++ decimal n

unfoldable pub pair_line : List ℕ → ℕ → List ℕ → ℕ → List ℕ
pair_line first m second n = told first m ++ told second n ++ ascii "\n"

-- first line: unit, recording number, frames
unfoldable pub head_line : Heading → ℕ → List ℕ
head_line h frames =
    told (ascii "unit ") h.unit ++ pair_line (ascii " recording ") h.number (ascii " frames ") frames

-- numbers that follow a field, each one space after the one before
unfoldable pub fields : List ℕ → List ℕ
fields [] = []
fields (n ∷ ns) = ascii " " ++ decimal n ++ fields ns

-- "the correction number keeps its place and a letter follows it as a field of its own: `c`, `p` or `d`" (document 02,
-- K5)
abbrev pub letter_of : Correction → List ℕ
letter_of Clean = ascii "c"
letter_of (Parity n) = ascii "p"
letter_of (Data f i) = ascii "d"

unfoldable pub corrected : Correction → List ℕ
corrected c = fields (number_of_case c ∷ []) ++ ascii " " ++ letter_of c

-- after that: order mark, SY, four delays in twelfths; or the refusal, where there is one (not 0)
unfoldable pub rest_of : Said → List ℕ
rest_of x =
    cond (eqb x.refusal 0) (fields (x.mark ∷ x.sy ∷ x.first ∷ x.second ∷ x.third ∷ x.fourth ∷ []))
    (told (ascii " refused ") x.refusal)

-- a line for each frame: frame number, correction number with its letter, and the rest
unfoldable pub frame_line : Said → List ℕ
frame_line x = decimal x.number ++ corrected x.correction ++ rest_of x ++ ascii "\n"

-- last line: repaired frames and sync breaks
unfoldable pub last_line : ℕ → ℕ → List ℕ
last_line repaired breaks = pair_line (ascii "repaired ") repaired (ascii " breaks ") breaks

-- the one line of a refused recording: the refusal's number and the place it tells, 65536 where it tells nothing; and
-- after the place the payload size, where that is told too (document 02, K1)
abbrev pub numbers_shown : Told → List ℕ
numbers_shown Nothing = longest ∷ []
numbers_shown (Place p) = p ∷ []
numbers_shown (PlaceAndSize p size) = p ∷ size ∷ []

unfoldable pub refusal_line : ℕ → List ℕ → List ℕ
refusal_line number shown = told (ascii "refused ") number ++ ascii " at" ++ fields shown ++ ascii "\n"

unfoldable pub refused_line : Cause → List ℕ
refused_line cause = refusal_line (refusal_of cause) (numbers_shown (told_of cause))

-- any line
abbrev pub line_of : Line → List ℕ
line_of (Head h frames) = head_line h frames
line_of (Frame x) = frame_line x
line_of (Last repaired breaks) = last_line repaired breaks
line_of (Refused cause) = refused_line cause

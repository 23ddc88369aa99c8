-- What reading and writing answer: the cases, and the numbers that document 01 gives them.
use Rattle.std.specs.Prelude.{List, [], ◌∷◌, ℕ, eqb, length, Option, None, Some, Result, Ok, Err}
use Rattle.laws.specs.Unless.{unless}
use Rattle.record.specs.Fields.{record_with, too_large_field}
use Rattle.record.specs.declared.Record.{Record}
use Rattle.lsp.specs.Table.{hertz_of, hz_in}
use Rattle.lsp.specs.Order.{mark_of}
use Rattle.frame.specs.Parity.{number, mended}
use Rattle.frame.specs.Correction.{correction_of, number_of_case}
use Rattle.frame.specs.Frame.{bit_at, record_of, frame_of}
use Rattle.frame.specs.declared.Correction.TheVariants as Correction
use Rattle.frame.specs.declared.Reading.{Reading}
use Rattle.frame.specs.declared.Refusal.{Refusal}
use Rattle.frame.specs.declared.Refusal.TheVariants.{WrongLength, TooLarge, Falling, Expansion}

-- the order mark of a record
unfoldable pub record_mark : Record → ℕ
record_mark r = mark_of (hz_in (hertz_of r.lsp))

-- a record of nothing but 0
abbrev pub no_record : Record
no_record = record_with (λ i. 0)

-- what is read in the bits b of a frame: the record after correction, what correction did, the order mark
abbrev pub read_in : (ℕ → ℕ) → Reading
read_in b =
    record {
      indices = record_of (mended b);
      correction = correction_of (number b);
      mark = record_mark (record_of (mended b));
    }

-- what there is where nothing was read
abbrev pub not_read : Reading
not_read = record { indices = no_record; correction = Correction.Clean; mark = 0 }

-- what is read in any bytes; in those that are not eighteen nothing is
unfoldable pub reading_of : List ℕ → Reading
reading_of s =
    unless (eqb (length s) 18) not_read (read_in (bit_at s))

-- the answer on any bytes; a frame that is not eighteen of them is refused
unfoldable pub read_of : List ℕ → Option Reading
read_of s = unless (eqb (length s) 18) None (Some (reading_of s))

-- the correction number of a reading; 0 where nothing was read
abbrev pub correction_number : Reading → ℕ
correction_number r = number_of_case r.correction

-- what a record to write gets: the frame, or a refusal
abbrev pub Written : Type 0
Written = Result (Unit {0}) Refusal

-- given the length of the lent buffer: lowest refusal number first
unfoldable pub written_of : Record → ℕ → Written
written_of r n =
    unless (eqb n 18) (Err WrongLength)
    (unless (eqb (too_large_field r) 0) (Err (TooLarge (too_large_field r)))
    (unless (eqb (record_mark r) 0) (Err (Falling (record_mark r)))
    (unless (eqb r.sp 0) (Err Expansion)
    (Ok tt))))

-- what a buffer holds after an answer: the frame, or what it held
abbrev pub left_by : Written → List ℕ → List ℕ → List ℕ
left_by (Ok frame) new old = new
left_by (Err why) new old = old

unfoldable pub frame_left : Record → List ℕ → List ℕ
frame_left r s = left_by (written_of r (length s)) (frame_of r) s

-- the refusal numbers of document 01 and what each tells; 0 is no refusal
abbrev pub read_refusal : Option Reading → ℕ
read_refusal (Some r) = 0
read_refusal None = 1

abbrev pub read_tells : Option Reading → List ℕ
read_tells (Some r) = []
read_tells None = []

abbrev pub refusal_of : Written → ℕ
refusal_of (Ok frame) = 0
refusal_of (Err WrongLength) = 1
refusal_of (Err (TooLarge f)) = 2
refusal_of (Err (Falling m)) = 3
refusal_of (Err Expansion) = 6

abbrev pub tells_of : Written → List ℕ
tells_of (Ok frame) = []
tells_of (Err WrongLength) = []
tells_of (Err (TooLarge f)) = f ∷ []
tells_of (Err (Falling m)) = m ∷ []
tells_of (Err Expansion) = []

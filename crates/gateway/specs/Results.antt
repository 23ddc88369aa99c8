-- What the frame reader and the frame writer for C answer, and what they leave in the buffer that they are lent to write.
use Rattle.std.specs.Prelude.{List, ℕ, ◌+◌, ◌*◌, eqb, ℤ, pos, length, Option, None, Some, Err}
use Rattle.laws.specs.Unless.{unless}
use Rattle.verdicts.specs.Verdicts.{refused}
use Rattle.frame.specs.Answers.{read_of, correction_number, written_of, frame_left, read_refusal, refusal_of}
use Rattle.frame.specs.declared.Correction.{Correction}
use Rattle.frame.specs.declared.Correction.TheVariants.{Clean, Parity, Data}
use Rattle.frame.specs.declared.Reading.{Reading}
use Rattle.frame.specs.declared.Refusal.TheVariants.{WrongLength}
use Rattle.pairs.specs.Pairs.{bytes_of, record_in}

-- "the C reader's result grows by 256 for a parity hit and 512 for a data hit" (document 02, K5)
abbrev pub kind_of : Correction → ℕ
kind_of Clean = 0
kind_of (Parity n) = 256
kind_of (Data f i) = 512

-- the reader's result: 16 times the order mark plus the correction number, and what its kind adds; or the refusal
abbrev pub result_of : Reading → ℕ
result_of a = 16 * a.mark + correction_number a + kind_of a.correction

abbrev pub read_answer : Option Reading → ℤ
read_answer (Some a) = pos (result_of a)
read_answer None = refused (read_refusal None)

-- of a frame and the length of the buffer for the record
unfoldable pub read_result : List ℕ → ℕ → ℤ
read_result s n = unless (eqb n 56) (refused (read_refusal None)) (read_answer (read_of s))

-- what that buffer, which held o, then holds: the record that was read; after a refusal what it held
abbrev pub read_into : Option Reading → List ℕ → List ℕ
read_into (Some a) o = bytes_of a.indices
read_into None o = o

unfoldable pub record_left : List ℕ → List ℕ → List ℕ
record_left s o = unless (eqb (length o) 56) o (read_into (read_of s) o)

-- the writer's result: 0, or the refusal; of the bytes of a record and the length of the buffer for the frame
unfoldable pub write_result : List ℕ → ℕ → ℤ
write_result s n =
    refused (unless (eqb (length s) 56) (refusal_of (Err WrongLength)) (refusal_of (written_of (record_in s) n)))

-- what that buffer, which held o, then holds: the record's frame; after a refusal what it held
unfoldable pub frame_left_by : List ℕ → List ℕ → List ℕ
frame_left_by s o = unless (eqb (length s) 56) o (frame_left (record_in s) o)

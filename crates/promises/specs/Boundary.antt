-- The C boundary (document 01, "What the work covers"): "the record as 28 byte pairs (16 bits, little-endian, in
-- field order). The reader's C result is 16 times the order mark plus the correction number, the writer's is 0; a
-- refusal is minus its number." Document 02, K5: it "grows by 256 for a parity hit and 512 for a data hit".
use Rattle.std.specs.Prelude.{◌≡◌, List, ℕ, ◌+◌, ◌*◌, ◌/◌, ◌%◌, ◌<◌, pos, neg_ℤ, length, get_or}
use Rattle.record.specs.declared.Record.{Record}
use Rattle.frame.specs.Frame.{frame_of}
use Rattle.frame.specs.Answers.{reading_of, correction_number, written_of, refusal_of}
use Rattle.pairs.specs.Pairs.{bytes_of, record_in}
use Rattle.gateway.specs.Results.{kind_of, read_result, record_left, write_result, frame_left_by}
use Rattle.promises.specs.Frames.{Shaped}

-- 56 bytes
pub record FiftySix (s : List ℕ) : Type 0 where
  pub long : length s ≡ 56
  pub bytes : (i : ℕ) → i < 56 → get_or s i 0 < 256

-- records and their 56 bytes are two ways to write the same
unfoldable pub PairsHoldRecord : Type 0
PairsHoldRecord =
    ((r : Record) → Shaped r → record_in (bytes_of r) ≡ r) × ((s : List ℕ) → FiftySix s → bytes_of (record_in s) ≡ s)

-- the reader's result comes apart into kind, mark and number, and the buffer holds the record. Without the kind it is
-- what it was before there were kinds.
pub record ReadsInto (s o : List ℕ) : Type 0 where
  pub told : ℕ
  pub result : read_result s (length o) ≡ pos told
  pub kind : 256 * (told / 256) ≡ kind_of (reading_of s).correction
  pub mark : told / 16 % 16 ≡ (reading_of s).mark
  pub number : told % 16 ≡ correction_number (reading_of s)
  pub as_before : told % 256 ≡ 16 * (reading_of s).mark + correction_number (reading_of s)
  pub left : record_left s o ≡ bytes_of (reading_of s).indices

unfoldable pub ReadTells : Type 0
ReadTells = (s o : List ℕ) → length s ≡ 18 → length o ≡ 56 → ReadsInto s o

-- the writer's result is minus the refusal's number, and 0 where the buffer holds the frame
unfoldable pub WriteTells : Type 0
WriteTells =
    (s o : List ℕ) → length s ≡ 56
    → (write_result s (length o) ≡ neg_ℤ (pos (refusal_of (written_of (record_in s) (length o)))))
    × (write_result s (length o) ≡ pos 0 → frame_left_by s o ≡ frame_of (record_in s))

-- what is written through the boundary is read back through it, byte for byte
unfoldable pub BoundaryReadsBack : Type 0
BoundaryReadsBack =
    (s o p : List ℕ) → FiftySix s → length p ≡ 56 → write_result s (length o) ≡ pos 0
    → (read_result (frame_left_by s o) (length p) ≡ pos 0) × (record_left (frame_left_by s o) p ≡ s)

-- The second and the third demand for frames. Each statement is about the definitions that the contracts of
-- `reader::read` and `writer::write` cite; proofs/Frames.antt shows each and carries it to the two functions.
use Rattle.std.specs.Prelude.{◌≡◌, List, ◌↔◌, ℕ, ◌^◌, ◌<◌, ◌≤◌, Some, Ok, length, get_or}
use Rattle.std.specs.Int.Bits.{bit_xor}
use Rattle.laws.specs.Tabulate.{tabulate}
use Rattle.laws.specs.Total.{bit}
use Rattle.record.specs.Fields.{index_of, width_of}
use Rattle.record.specs.declared.Record.{Record}
use Rattle.frame.specs.Places.{field_of, bit_of}
use Rattle.frame.specs.Parity.{guarded_name, guarded_place}
use Rattle.frame.specs.Frame.{bit_at, frame_of}
use Rattle.frame.specs.Answers.{reading_of, read_of, correction_number, written_of, frame_left}
use Rattle.frame.specs.declared.Correction.TheVariants as Correction
use Rattle.frame.specs.declared.Reading.{Reading}

-- a value of the record type: ten parameters and sixteen subframe indices
pub record Shaped (r : Record) : Type 0 where
  pub parameters : length r.lsp ≡ 10
  pub indices : length r.subframes ≡ 16

-- eighteen bytes
pub record Eighteen (s : List ℕ) : Type 0 where
  pub long : length s ≡ 18
  pub bytes : (k : ℕ) → k < 18 → get_or s k 0 < 256

-- "A record the writer accepts reads back equal": the same record, clean, order mark 0.
unfoldable pub ReadsBack : Type 0
ReadsBack =
    (r : Record) (s : List ℕ) → Shaped r → written_of r (length s) ≡ Ok tt
    → read_of (frame_left r s) ≡ Some (record { indices = r; correction = Correction.Clean; mark = 0 })

-- "A frame that is read writes back to the same bits exactly when its parity was clean, its expansion bit 0 and its
-- parameters in order", whatever the lent buffer t held.
pub record WritesBack (s t : List ℕ) : Type 0 where
  pub accepted : written_of (reading_of s).indices (length t) ≡ Ok tt
  pub same : frame_left (reading_of s).indices t ≡ s

pub record Clean (s : List ℕ) : Type 0 where
  pub parity : correction_number (reading_of s) ≡ 0
  pub expansion : (reading_of s).indices.sp ≡ 0
  pub order : (reading_of s).mark ≡ 0

unfoldable pub SameBits : Type 0
SameBits = (s t : List ℕ) → Eighteen s → length t ≡ 18 → WritesBack s t ↔ Clean s

-- w is the frame that our writer made of the record r
pub record Made (r : Record) (w : List ℕ) : Type 0 where
  pub shaped : Shaped r
  pub accepted : written_of r 18 ≡ Ok tt
  pub frame : frame_of r ≡ w

-- a frame with some of its bits flipped: exclusive or, byte by byte
abbrev pub flipped : List ℕ → List ℕ → List ℕ
flipped w e = tabulate (λ k. bit_xor (get_or w k 0) (get_or e k 0)) 18

-- what is read in a flipped frame, beside the written record and what is read in the flips alone. The correction is the
-- one for the flips alone (document 02, K5), and so is its number.
pub record OfTheFlips (written : Record) (alone damaged : Reading) : Type 0 where
  pub indices : (f : ℕ) → 1 ≤ f → f ≤ 28
      → index_of damaged.indices f ≡ bit_xor (index_of written f) (index_of alone.indices f)
  pub correction : damaged.correction ≡ alone.correction
  pub number : correction_number damaged ≡ correction_number alone

-- "Take a frame our writer made and flip any set of its bits. The indices then read are the written ones, with
-- exactly those bits reversed that come out as 1 when the flips alone are read as a frame; the correction number
-- reported is the one for the flips alone."
unfoldable pub DamageAlone : Type 0
DamageAlone = (r : Record) (w e : List ℕ) → Made r w → Eighteen e → OfTheFlips r (reading_of e) (reading_of (flipped w e))

-- a guarded place, by its correction number, one of fifteen; one of the eleven that hold a data bit
pub record Guarded (n : ℕ) : Type 0 where
  pub from : 1 ≤ n
  pub upto : n ≤ 15

pub record DataBit (n : ℕ) : Type 0 where
  pub guarded : Guarded n
  pub held : field_of (guarded_name n) ≡ 0 → ⊥

-- the guarded data bit of number n, in a record
abbrev pub data_bit_of : Record → ℕ → ℕ
data_bit_of r n = bit (index_of r (field_of (guarded_name n))) (bit_of (guarded_name n))

-- the guarded place of number n is flipped, or not
abbrev pub Flipped : List ℕ → ℕ → Type 0
Flipped e n = bit_at e (guarded_place n) ≡ 1

abbrev pub Unflipped : List ℕ → ℕ → Type 0
Unflipped e n = bit_at e (guarded_place n) ≡ 0

-- of the guarded places none was flipped; no more than one; these two and no other
abbrev pub NoneGuarded : List ℕ → Type 0
NoneGuarded e = (n : ℕ) → Guarded n → Unflipped e n

abbrev pub AtMostOne : List ℕ → Type 0
AtMostOne e = (m n : ℕ) → Guarded m → Guarded n → Flipped e m → Flipped e n → m ≡ n

pub record ExactlyTwo (e : List ℕ) (m n : ℕ) : Type 0 where
  pub one : Guarded m
  pub other : Guarded n
  pub apart : m ≡ n → ⊥
  pub one_flipped : Flipped e m
  pub other_flipped : Flipped e n
  pub no_more : (q : ℕ) → Guarded q → (q ≡ m → ⊥) → (q ≡ n → ⊥) → Unflipped e q

-- "If no more than one of the fifteen guarded places was flipped, none of the eleven guarded data bits differs."
unfoldable pub OneMended : Type 0
OneMended =
    (r : Record) (w e : List ℕ) → Made r w → Eighteen e → AtMostOne e
    → (n : ℕ) → DataBit n → data_bit_of (reading_of (flipped w e)).indices n ≡ data_bit_of r n

-- "Two are always reported."
unfoldable pub TwoReported : Type 0
TwoReported =
    (r : Record) (w e : List ℕ) → Made r w → Eighteen e → (m n : ℕ) → ExactlyTwo e m n
    → correction_number (reading_of (flipped w e)) ≡ 0 → ⊥

-- Every eighteen bytes have a reading, and no two frames have the same one: record and correction number together
-- tell the frame.
unfoldable pub EveryFrameRead : Type 0
EveryFrameRead = (s : List ℕ) → Eighteen s → read_of s ≡ Some (reading_of s)

unfoldable pub OneFrame : Type 0
OneFrame =
    (s t : List ℕ) → Eighteen s → Eighteen t
    → (reading_of s).indices ≡ (reading_of t).indices → correction_number (reading_of s) ≡ correction_number (reading_of t)
    → s ≡ t

-- So a record comes from sixteen frames, one for each number.
pub record Comes (r : Record) (n : ℕ) : Type 0 where
  pub from : List ℕ
  pub eighteen : Eighteen from
  pub reads : (reading_of from).indices ≡ r
  pub numbered : correction_number (reading_of from) ≡ n

unfoldable pub SixteenFrames : Type 0
SixteenFrames =
    (r : Record) → Shaped r → ((f : ℕ) → 1 ≤ f → f ≤ 28 → index_of r f < 2 ^ width_of f) → (n : ℕ) → n < 16 → Comes r n

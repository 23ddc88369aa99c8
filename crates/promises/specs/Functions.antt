-- The promises about frames said of the two functions themselves: of any answer and any bytes left that the contracts
-- of `writer::write` and `reader::read` allow.
use Rattle.std.specs.Prelude.{◌≡◌, List, ◌↔◌, ℕ, Option, Some, Ok, length}
use contract.Lifetimes.{Lfts}
use denote.Triple.Clauses.{AtExit}
use borrow.Fn.Kinds.{Dens, ended_of}
use Rattle.record.specs.declared.Record.{Record}
use Rattle.frame.specs.Answers.{reading_of, correction_number, Written}
use Rattle.frame.specs.declared.Correction.TheVariants as Correction
use Rattle.frame.specs.declared.Reading.{Reading}
use Rattle.reader.proofs.read.Kinds as read
use Rattle.reader.proofs.read.Reads as read-reads
use Rattle.writer.proofs.write.Kinds as write
use Rattle.writer.proofs.write.Reads as write-reads
use Rattle.promises.specs.Frames.{Shaped, Eighteen, flipped, OfTheFlips, DataBit, data_bit_of, AtMostOne}
use Rattle.promises.specs.Frames.{ExactlyTwo}

-- `read`, lent the bytes s, may answer d
pub record Answers (s : List ℕ) (d : Option Reading) : Type 0 where
  pub lifetimes : Lfts 1
  pub lent : Dens lifetimes read.ps
  pub at_exit : AtExit (ended_of 1 read.ps read.r) lifetimes
  pub bytes : lent.0.now ≡ s
  pub allowed : read-reads.Post lifetimes lent d at_exit

-- `write`, handed the record r and lent a buffer that holds s, may answer a and leave the bytes t
pub record Leaves (r : Record) (s : List ℕ) (a : Written) (t : List ℕ) : Type 0 where
  pub lifetimes : Lfts 1
  pub lent : Dens lifetimes write.ps
  pub at_exit : AtExit (ended_of 1 write.ps write.r) lifetimes
  pub handed : lent.0 ≡ r
  pub held : lent.1.0.now ≡ s
  pub left : at_exit.1.0.now ≡ t
  pub allowed : write-reads.Post lifetimes lent a at_exit

-- what `read` answers on eighteen bytes is a reading
unfoldable pub FramesAnswered : Type 0
FramesAnswered = (s : List ℕ) (d : Option Reading) → Eighteen s → Answers s d → d ≡ Some (reading_of s)

-- what `read` answers on the bytes that `write` left
unfoldable pub WriteThenRead : Type 0
WriteThenRead =
    (r : Record) (s t : List ℕ) (d : Option Reading) → Shaped r → Leaves r s (Ok tt) t → Answers t d
    → d ≡ Some (record { indices = r; correction = Correction.Clean; mark = 0 })

-- what `write` leaves of the record that `read` answered: the same bytes exactly when the reading was clean
unfoldable pub ReadThenWrite : Type 0
ReadThenWrite =
    (s t u : List ℕ) (d : Reading) (a : Written) → Eighteen s → length t ≡ 18 → Answers s (Some d) → Leaves d.indices t a u
    → ((a ≡ Ok tt) × (u ≡ s)) ↔ ((correction_number d ≡ 0) × (d.indices.sp ≡ 0) × (d.mark ≡ 0))

-- a frame w that `write` left of the record r, the flips e, and what `read` answers on the flips alone and on the
-- flipped frame
pub record Damaged (r : Record) (w e : List ℕ) (alone damaged : Reading) : Type 0 where
  pub shaped : Shaped r
  pub buffer : List ℕ
  pub leaves : Leaves r buffer (Ok tt) w
  pub flips : Eighteen e
  pub reads_alone : Answers e (Some alone)
  pub reads_damaged : Answers (flipped w e) (Some damaged)

-- in each of the 28 fields the index read is the written one, exclusive or that of the flips alone; the correction, and
-- so its number, is that of the flips alone
unfoldable pub RepairByDamage : Type 0
RepairByDamage =
    (r : Record) (w e : List ℕ) (alone damaged : Reading) → Damaged r w e alone damaged → OfTheFlips r alone damaged

-- with no more than one guarded place flipped, each guarded data bit read is the written one
unfoldable pub OneFlip : Type 0
OneFlip =
    (r : Record) (w e : List ℕ) (alone damaged : Reading) → Damaged r w e alone damaged → AtMostOne e
    → (n : ℕ) → DataBit n → data_bit_of damaged.indices n ≡ data_bit_of r n

-- with two flipped the number is not 0
unfoldable pub TwoFlips : Type 0
TwoFlips =
    (r : Record) (w e : List ℕ) (alone damaged : Reading) → Damaged r w e alone damaged
    → (m n : ℕ) → ExactlyTwo e m n → correction_number damaged ≡ 0 → ⊥

-- two frames of which `read` answers the same record and number are the same bytes
unfoldable pub NoTwoFrames : Type 0
NoTwoFrames =
    (s t : List ℕ) (c d : Reading) → Eighteen s → Eighteen t → Answers s (Some c) → Answers t (Some d)
    → c.indices ≡ d.indices → correction_number c ≡ correction_number d → s ≡ t

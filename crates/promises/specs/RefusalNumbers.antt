-- The table of document 01, "Refusal numbers": for each answer its refusal's number, when it is given, and what it
-- tells. A row is a number, a list of what is told, and the condition; 0 is no refusal. An answer has a number and
-- tells a list exactly when such a row is met, so that a renumbering moves a row and the definition of the number, and
-- no condition.
use Rattle.std.specs.Prelude.{◌≡◌, List, [], ◌∷◌, ◌↔◌, ℕ, ◌+◌, ◌-◌, ◌*◌, ◌<◌, ◌≤◌, ℤ, pos, neg_ℤ, length}
use Rattle.record.specs.declared.Record.{Record}
use Rattle.gains.specs.Gains.{gain_of}
use Rattle.gains.specs.Gains as gain
use Rattle.delays.specs.Codes.{meant_by, coded_of}
use Rattle.delays.specs.Codes as delay
use Rattle.lsp.specs.Table.{hertz_of}
use Rattle.lsp.specs.Table as hertz
use Rattle.codebook.specs.Code as code
use Rattle.frame.specs.Answers.{reading_of, read_of, correction_number, written_of}
use Rattle.frame.specs.Answers as frame
use Rattle.values.specs.Outcome as hearing
use Rattle.values.specs.Values.{values_of}
use Rattle.values.specs.declared.State.{State}
use Rattle.blocks.specs.Walk.{walked_of}
use Rattle.blocks.specs.Refusals.{walked_refusal, walked_tells}
use Rattle.blocks.specs.declared.Cause.TheVariants.{TooLong, HeaderCut, PastEnd, WrongSize, UnknownKind, OutOfTurn}
use Rattle.blocks.specs.declared.Cause.TheVariants.{EndMissing, WrongCount, Extra}
use Rattle.recording.specs.Judged.{judged_of, judged_refusal, judged_tells}
use Rattle.pairs.specs.Pairs.{record_in}
use Rattle.gateway.specs.Results.{kind_of, read_result, write_result}
use Rattle.promises.specs.Refused.{AllFit, LowestTooLarge, Ordered, LowestFall, AllWithin, LowestOver}
use Rattle.promises.specs.Refused.{FirstTooLarge, Means, FirstNotListed, FirstOutside, Sends}
use Rattle.promises.specs.Rule.{Given, Accepted}

-- a frame to read
pub data ReaderTable (s : List ℕ) : ℕ → List ℕ → Type 0 where
  read_length : (length s ≡ 18 → ⊥) → ReaderTable s 1 []
  read_frame : length s ≡ 18 → ReaderTable s 0 []

unfoldable pub ReaderNumbers : Type 0
ReaderNumbers =
    (s : List ℕ) (k : ℕ) (t : List ℕ)
    → ((frame.read_refusal (read_of s) ≡ k) × (frame.read_tells (read_of s) ≡ t)) ↔ ReaderTable s k t

-- a record to write, into a buffer of n bytes
pub data WriterTable (r : Record) (n : ℕ) : ℕ → List ℕ → Type 0 where
  write_length : (n ≡ 18 → ⊥) → WriterTable r n 1 []
  write_index : (f : ℕ) → n ≡ 18 → LowestTooLarge r f → WriterTable r n 2 (f ∷ [])
  write_fall : (m : ℕ) → n ≡ 18 → AllFit r → LowestFall r m → WriterTable r n 3 (m ∷ [])
  write_expansion : n ≡ 18 → AllFit r → Ordered r → r.sp ≡ 1 → WriterTable r n 6 []
  write_frame : n ≡ 18 → AllFit r → Ordered r → r.sp ≡ 0 → WriterTable r n 0 []

unfoldable pub WriterNumbers : Type 0
WriterNumbers =
    (r : Record) (n k : ℕ) (t : List ℕ)
    → ((frame.refusal_of (written_of r n) ≡ k) × (frame.tells_of (written_of r n) ≡ t)) ↔ WriterTable r n k t

-- a record to hear
pub data HearingTable (r : Record) : ℕ → List ℕ → Type 0 where
  hear_index : (f : ℕ) → LowestTooLarge r f → HearingTable r 2 (f ∷ [])
  hear_expansion : AllFit r → r.sp ≡ 1 → HearingTable r 6 []
  hear_values : AllFit r → r.sp ≡ 0 → HearingTable r 0 []

unfoldable pub HearingNumbers : Type 0
HearingNumbers =
    (r : Record) (before : State) (k : ℕ) (t : List ℕ)
    → ((hearing.refusal_of (values_of r before).outcome ≡ k) × (hearing.tells_of (values_of r before).outcome ≡ t)) ↔
    HearingTable r k t

-- ten LSP indices to put in Hz; LSP j is field j
pub data HertzTable (indices : List ℕ) : ℕ → List ℕ → Type 0 where
  hertz_index : (j : ℕ) → LowestOver indices j → HertzTable indices 2 (j ∷ [])
  hertz_values : AllWithin indices → HertzTable indices 0 []

unfoldable pub HertzNumbers : Type 0
HertzNumbers =
    (indices : List ℕ) (k : ℕ) (t : List ℕ)
    → ((hertz.refusal_of (hertz_of indices) ≡ k) × (hertz.tells_of (hertz_of indices) ≡ t)) ↔ HertzTable
    indices k t

-- four codes to hear; that of subframe n is field 10 + 4(n-1) + 1
pub data MeaningTable (a b c d : ℕ) : ℕ → List ℕ → Type 0 where
  meaning_index : (n : ℕ) → FirstTooLarge a b c d n → MeaningTable a b c d 2 ((10 + 4 * (n - 1) + 1) ∷ [])
  meaning_delays : (w x y z : ℕ) → Means a b c d w x y z → MeaningTable a b c d 0 []

unfoldable pub MeaningNumbers : Type 0
MeaningNumbers =
    (a b c d k : ℕ) (t : List ℕ)
    → ((delay.meant_refusal (meant_by (a ∷ b ∷ c ∷ d ∷ [])) ≡ k) × (delay.meant_tells (meant_by (a ∷ b ∷ c ∷ d ∷ [])) ≡ t))
    ↔ MeaningTable a b c d k t

-- four delays to send
pub data DelayTable (a b c d : ℕ) : ℕ → List ℕ → Type 0 where
  delay_unlisted : (n : ℕ) → FirstNotListed a b c d n → DelayTable a b c d 4 (n ∷ [])
  delay_outside : (n : ℕ) → FirstOutside a b c d n → DelayTable a b c d 5 (n ∷ [])
  delay_codes : (i j k l : ℕ) → Sends a b c d i j k l → DelayTable a b c d 0 []

unfoldable pub DelayNumbers : Type 0
DelayNumbers =
    (a b c d k : ℕ) (t : List ℕ)
    → ((delay.refusal_of (coded_of (a ∷ b ∷ c ∷ d ∷ [])) ≡ k) × (delay.tells_of (coded_of (a ∷ b ∷ c ∷ d ∷ [])) ≡ t))
    ↔ DelayTable a b c d k t

-- a code to write, into a buffer of n elements; "0 for a lone index (code over 511, gain over 31)"
pub data CodeTable (index n : ℕ) : ℕ → List ℕ → Type 0 where
  code_length : (n ≡ 60 → ⊥) → CodeTable index n 1 []
  code_index : n ≡ 60 → 511 < index → CodeTable index n 2 (0 ∷ [])
  code_elements : n ≡ 60 → index ≤ 511 → CodeTable index n 0 []

unfoldable pub CodeNumbers : Type 0
CodeNumbers =
    (index n k : ℕ) (t : List ℕ)
    → ((code.refusal_of (code.written_of index n) ≡ k) × (code.tells_of (code.written_of index n) ≡ t)) ↔ CodeTable index n
    k t

-- a lone gain index, in either table
pub data GainTable (index : ℕ) : ℕ → List ℕ → Type 0 where
  gain_index : 31 < index → GainTable index 2 (0 ∷ [])
  gain_entry : index ≤ 31 → GainTable index 0 []

unfoldable pub GainNumbers : Type 0
GainNumbers =
    (table : List ℤ) (index k : ℕ) (t : List ℕ)
    → ((gain.refusal_of (gain_of table index) ≡ k) × (gain.tells_of (gain_of table index) ≡ t)) ↔ GainTable index k t

-- a recording, walked through or judged
pub data RecordingTable (s : List ℕ) : ℕ → List ℕ → Type 0 where
  too_long : Given s TooLong → RecordingTable s 1 []
  header_cut : (p : ℕ) → Given s (HeaderCut p) → RecordingTable s 9 (p ∷ [])
  past_end : (p : ℕ) → Given s (PastEnd p) → RecordingTable s 10 (p ∷ [])
  wrong_size : (p size : ℕ) → Given s (WrongSize p size) → RecordingTable s 11 (p ∷ size ∷ [])
  unknown_kind : (p : ℕ) → Given s (UnknownKind p) → RecordingTable s 8 (p ∷ [])
  out_of_turn : (p : ℕ) → Given s (OutOfTurn p) → RecordingTable s 8 (p ∷ [])
  end_missing : (p : ℕ) → Given s (EndMissing p) → RecordingTable s 8 (p ∷ [])
  wrong_count : (p : ℕ) → Given s (WrongCount p) → RecordingTable s 8 (p ∷ [])
  extra : (p : ℕ) → Given s (Extra p) → RecordingTable s 8 (p ∷ [])
  sound : Accepted s → RecordingTable s 0 []

unfoldable pub RecordingNumbers : Type 0
RecordingNumbers =
    (s : List ℕ) (k : ℕ) (t : List ℕ)
    → (((judged_refusal (judged_of s) ≡ k) × (judged_tells (judged_of s) ≡ t)) ↔ RecordingTable s k t)
    × (((walked_refusal (walked_of s) ≡ k) × (walked_tells (walked_of s) ≡ t)) ↔ RecordingTable s k t)

-- the C boundary: a result is minus the refusal's number. The reader's, of the bytes of a frame and a buffer for the
-- record; where both have their length it is 16 times the order mark plus the correction number, and what the kind of
-- the correction adds
pub data ReadResults (s o : List ℕ) : ℤ → Type 0 where
  c_read_length : ((length s ≡ 18) × (length o ≡ 56) → ⊥) → ReadResults s o (neg_ℤ (pos 1))
  c_read_frame : length s ≡ 18 → length o ≡ 56
      → ReadResults s o
      (pos (16 * (reading_of s).mark + correction_number (reading_of s) + kind_of (reading_of s).correction))

unfoldable pub ReadResultNumbers : Type 0
ReadResultNumbers = (s o : List ℕ) (z : ℤ) → (read_result s (length o) ≡ z) ↔ ReadResults s o z

-- the writer's, of the bytes of a record and a buffer for the frame
pub data WriteResults (s o : List ℕ) : ℤ → Type 0 where
  c_write_length : ((length s ≡ 56) × (length o ≡ 18) → ⊥) → WriteResults s o (neg_ℤ (pos 1))
  c_write_index : (f : ℕ) → length s ≡ 56 → length o ≡ 18 → LowestTooLarge (record_in s) f
      → WriteResults s o (neg_ℤ (pos 2))
  c_write_fall : (m : ℕ) → length s ≡ 56 → length o ≡ 18 → AllFit (record_in s) → LowestFall (record_in s) m
      → WriteResults s o (neg_ℤ (pos 3))
  c_write_expansion : length s ≡ 56 → length o ≡ 18 → AllFit (record_in s) → Ordered (record_in s) → (record_in s).sp ≡ 1
      → WriteResults s o (neg_ℤ (pos 6))
  c_write_frame : length s ≡ 56 → length o ≡ 18 → AllFit (record_in s) → Ordered (record_in s) → (record_in s).sp ≡ 0
      → WriteResults s o (pos 0)

unfoldable pub WriteResultNumbers : Type 0
WriteResultNumbers = (s o : List ℕ) (z : ℤ) → (write_result s (length o) ≡ z) ↔ WriteResults s o z

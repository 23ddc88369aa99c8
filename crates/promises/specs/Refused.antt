-- The refusals of frames, records, delays and codes (document 01, "Refusal numbers"): each is given exactly when its
-- condition is met and none earlier is, and a refusal writes nothing. Rule.antt says the same of recordings.
use Rattle.std.specs.Prelude.{◌≡◌, List, [], ◌∷◌, ◌↔◌, ℕ, ◌+◌, ◌^◌, ◌<◌, ◌≤◌, ℤ, pos, length, Some, Result, Ok, Err}
use Rattle.record.specs.Fields.{index_of, width_of}
use Rattle.record.specs.declared.Record.{Record}
use Rattle.delays.specs.Table.{twelfths_of, rank_of, rank_with}
use Rattle.delays.specs.Codes.{after_of, meant_by, coded_of}
use Rattle.delays.specs.declared.CodeRefusal.{CodeRefusal}
use Rattle.delays.specs.declared.CodeRefusal.TheVariants as Meant
use Rattle.delays.specs.declared.DelayRefusal.{DelayRefusal}
use Rattle.delays.specs.declared.DelayRefusal.TheVariants.{NotListed, OutsideWindow}
use Rattle.laws.specs.Tabulate.{tabulate}
use Rattle.lsp.specs.Table.{lsp, hz_at, hertz_of, hz_in}
use Rattle.lsp.specs.Order.{InOrder}
use Rattle.lsp.specs.declared.Refusal as lsp-refusal
use Rattle.lsp.specs.declared.Refusal.TheVariants as Lsp
use Rattle.codebook.specs.Code as code
use Rattle.codebook.specs.declared.Refusal as code_refusal
use Rattle.codebook.specs.declared.Refusal.TheVariants as Code
use Rattle.frame.specs.Answers.{read_of, read_refusal, Written, written_of, frame_left, refusal_of}
use Rattle.frame.specs.declared.Refusal.TheVariants as Refusal
use Rattle.values.specs.Values.{nothing_heard, values_of}
use Rattle.values.specs.Outcome as outcome
use Rattle.values.specs.declared.Outcome.{Outcome}
use Rattle.values.specs.declared.Outcome.TheVariants.{Heard, TooLarge, Expansion, Nothing}
use Rattle.values.specs.declared.State.{State}
use Rattle.gateway.specs.Results.{read_result, record_left, write_result, frame_left_by}

-- "A frame that isn't eighteen bytes": 1, and no other bytes are refused
unfoldable pub ReaderRefuses : Type 0
ReaderRefuses = (s : List ℕ) → (read_refusal (read_of s) ≡ 1) ↔ (length s ≡ 18 → ⊥)

-- every index fits its field; or f is the lowest field whose index does not
abbrev pub AllFit : Record → Type 0
AllFit r = (f : ℕ) → 1 ≤ f → f ≤ 28 → index_of r f < 2 ^ width_of f

pub record LowestTooLarge (r : Record) (f : ℕ) : Type 0 where
  pub from : 1 ≤ f
  pub upto : f ≤ 28
  pub here : 2 ^ width_of f ≤ index_of r f
  pub lower : (i : ℕ) → 1 ≤ i → i < f → index_of r i < 2 ^ width_of i

-- the parameters are in order; or m is the lowest number after which they fall
abbrev pub Ordered : Record → Type 0
Ordered r = InOrder (hz_in (hertz_of r.lsp))

pub record LowestFall (r : Record) (m : ℕ) : Type 0 where
  pub from : 1 ≤ m
  pub upto : m ≤ 9
  pub here : lsp (hz_in (hertz_of r.lsp)) (m + 1) < lsp (hz_in (hertz_of r.lsp)) m
  pub lower : (j : ℕ) → 1 ≤ j → j < m → lsp (hz_in (hertz_of r.lsp)) j ≤ lsp (hz_in (hertz_of r.lsp)) (j + 1)

-- the writer, lent a buffer of n bytes: 1, 2, 3, 6 in that order
abbrev pub WriterGives : Record → ℕ → Written → Type 0
WriterGives r n (Err Refusal.WrongLength) = n ≡ 18 → ⊥
WriterGives r n (Err (Refusal.TooLarge f)) = (n ≡ 18) × LowestTooLarge r f
WriterGives r n (Err (Refusal.Falling m)) = (n ≡ 18) × AllFit r × LowestFall r m
WriterGives r n (Err Refusal.Expansion) = (n ≡ 18) × AllFit r × Ordered r × (r.sp ≡ 1)
WriterGives r n (Ok frame) = (n ≡ 18) × AllFit r × Ordered r × (r.sp ≡ 0)

unfoldable pub WriterRefuses : Type 0
WriterRefuses = (r : Record) (n : ℕ) (a : Written) → (written_of r n ≡ a) ↔ WriterGives r n a

unfoldable pub RefusedFrameStays : Type 0
RefusedFrameStays = (r : Record) (s : List ℕ) → (refusal_of (written_of r (length s)) ≡ 0 → ⊥) → frame_left r s ≡ s

-- a record to hear, after any state: 2, then 6
abbrev pub HearingGives : Record → Outcome → Type 0
HearingGives r (TooLarge f) = LowestTooLarge r f
HearingGives r Expansion = AllFit r × (r.sp ≡ 1)
HearingGives r Heard = AllFit r × (r.sp ≡ 0)
HearingGives r Nothing = ⊥

unfoldable pub HearingRefuses : Type 0
HearingRefuses = (r : Record) (before : State) (o : Outcome) → ((values_of r before).outcome ≡ o) ↔ HearingGives r o

-- "A refused record leaves the state as it came", which document 02, K4, amends for 6
unfoldable pub RefusedStateStays : Type 0
RefusedStateStays =
    (r : Record) (before : State) → outcome.refusal_of (values_of r before).outcome ≡ 2 → (values_of r before).state
    ≡ before

-- "also updates the last SY, and that only"
pub record SyncAlone (before after : State) (sy : ℕ) : Type 0 where
  pub hz : after.hz ≡ before.hz
  pub last : after.last ≡ Some sy

unfoldable pub ExpansionKeepsSync : Type 0
ExpansionKeepsSync =
    (r : Record) (before : State) → outcome.refusal_of (values_of r before).outcome ≡ 6
    → SyncAlone before (values_of r before).state r.sy

-- where there is no record the state is as it came, too
unfoldable pub NothingStays : Type 0
NothingStays = (before : State) → ((nothing_heard before).outcome ≡ Nothing) × ((nothing_heard before).state ≡ before)

-- ten LSP indices to put in Hz: 2 for the lowest that is too large for its field
abbrev pub AllWithin : List ℕ → Type 0
AllWithin indices = (j : ℕ) → 1 ≤ j → j ≤ 10 → lsp indices j < 2 ^ width_of j

pub record LowestOver (indices : List ℕ) (j : ℕ) : Type 0 where
  pub from : 1 ≤ j
  pub upto : j ≤ 10
  pub here : 2 ^ width_of j ≤ lsp indices j
  pub lower : (m : ℕ) → 1 ≤ m → m < j → lsp indices m < 2 ^ width_of m

abbrev pub HertzGives : List ℕ → Result (List ℕ) lsp-refusal.Refusal → Type 0
HertzGives indices (Err (Lsp.TooLarge j)) = LowestOver indices j
HertzGives indices (Ok hz) = AllWithin indices × (tabulate (hz_at indices) 10 ≡ hz)

unfoldable pub HertzRefuses : Type 0
HertzRefuses = (indices : List ℕ) (v : Result (List ℕ) lsp-refusal.Refusal) → (hertz_of indices ≡ v) ↔ HertzGives indices v

-- four codes to hear: 2 for the first that is too large for its field, of eight bits in subframes 1 and 3 and of six in
-- 2 and 4
pub data FirstTooLarge (a b c d : ℕ) : ℕ → Type 0 where
  first_large : 255 < a → FirstTooLarge a b c d 1
  second_large : a ≤ 255 → 63 < b → FirstTooLarge a b c d 2
  third_large : a ≤ 255 → b ≤ 63 → 255 < c → FirstTooLarge a b c d 3
  fourth_large : a ≤ 255 → b ≤ 63 → c ≤ 255 → 63 < d → FirstTooLarge a b c d 4

-- otherwise subframes 1 and 3 mean the rank of their byte, and 2 and 4 count on from the window's base
pub record Means (a b c d w x y z : ℕ) : Type 0 where
  pub byte : a ≤ 255
  pub step : b ≤ 63
  pub next_byte : c ≤ 255
  pub next_step : d ≤ 63
  pub first : twelfths_of (rank_of a) ≡ w
  pub second : twelfths_of (after_of (rank_of a) b) ≡ x
  pub third : twelfths_of (rank_of c) ≡ y
  pub fourth : twelfths_of (after_of (rank_of c) d) ≡ z

abbrev pub MeaningGives : ℕ → ℕ → ℕ → ℕ → Result (List ℕ) CodeRefusal → Type 0
MeaningGives a b c d (Err (Meant.TooLarge n)) = FirstTooLarge a b c d n
MeaningGives a b c d (Ok (w ∷ x ∷ y ∷ z ∷ [])) = Means a b c d w x y z
MeaningGives a b c d (Ok _) = ⊥

unfoldable pub MeaningRefuses : Type 0
MeaningRefuses = (a b c d : ℕ) (m : Result (List ℕ) CodeRefusal) → (meant_by (a ∷ b ∷ c ∷ d ∷ []) ≡ m) ↔ MeaningGives a b c d m

-- a delay is in the list; after another one some six-bit code means it
abbrev pub Listed : ℕ → Type 0
Listed delay = (rank : ℕ) × (rank < 256) × (twelfths_of rank ≡ delay)

abbrev pub Follows : ℕ → ℕ → Type 0
Follows before delay = (step : ℕ) × (step < 64) × (twelfths_of (after_of (rank_with before) step) ≡ delay)

-- subframe by subframe, in each 4 before 5: the subframe of four delays at which there is the first refusal
pub data FirstNotListed (a b c d : ℕ) : ℕ → Type 0 where
  first_unlisted : (Listed a → ⊥) → FirstNotListed a b c d 1
  second_unlisted : Listed a → (Listed b → ⊥) → FirstNotListed a b c d 2
  third_unlisted : Listed a → Listed b → Follows a b → (Listed c → ⊥) → FirstNotListed a b c d 3
  fourth_unlisted : Listed a → Listed b → Follows a b → Listed c → (Listed d → ⊥) → FirstNotListed a b c d 4

pub data FirstOutside (a b c d : ℕ) : ℕ → Type 0 where
  second_outside : Listed a → Listed b → (Follows a b → ⊥) → FirstOutside a b c d 2
  fourth_outside : Listed a → Listed b → Follows a b → Listed c → Listed d → (Follows c d → ⊥) → FirstOutside a b c d 4

-- four codes that mean the four delays, and so fit their fields
abbrev pub Sends : ℕ → ℕ → ℕ → ℕ → ℕ → ℕ → ℕ → ℕ → Type 0
Sends a b c d i j k l = meant_by (i ∷ j ∷ k ∷ l ∷ []) ≡ Ok (a ∷ b ∷ c ∷ d ∷ [])

abbrev pub CodingGives : ℕ → ℕ → ℕ → ℕ → Result (List ℕ) DelayRefusal → Type 0
CodingGives a b c d (Err (NotListed n)) = FirstNotListed a b c d n
CodingGives a b c d (Err (OutsideWindow n)) = FirstOutside a b c d n
CodingGives a b c d (Ok (i ∷ j ∷ k ∷ l ∷ [])) = Sends a b c d i j k l
CodingGives a b c d (Ok _) = ⊥

unfoldable pub DelaysRefuse : Type 0
DelaysRefuse = (a b c d : ℕ) (x : Result (List ℕ) DelayRefusal) → (coded_of (a ∷ b ∷ c ∷ d ∷ []) ≡ x) ↔ CodingGives a b c d x

-- a code written into a buffer of n elements: 1, then 2 for an index over 511
abbrev pub CodeGives : ℕ → ℕ → Result (Unit {0}) code_refusal.Refusal → Type 0
CodeGives index n (Err Code.WrongLength) = n ≡ 60 → ⊥
CodeGives index n (Err Code.TooLarge) = (n ≡ 60) × (511 < index)
CodeGives index n (Ok u) = (n ≡ 60) × (index ≤ 511)

unfoldable pub CodeRefuses : Type 0
CodeRefuses = (index n : ℕ) (a : Result (Unit {0}) code_refusal.Refusal) → (code.written_of index n ≡ a) ↔ CodeGives index n a

unfoldable pub RefusedCodeStays : Type 0
RefusedCodeStays = (index : ℕ) (l : List ℤ) → (code.refusal_of (code.written_of index (length l)) ≡ 0 → ⊥)
    → code.code_left index l ≡ l

-- at the C boundary: a result below 0 leaves the lent buffer as it was
unfoldable pub RefusedReadStays : Type 0
RefusedReadStays = (s o : List ℕ) → ((n : ℕ) → read_result s (length o) ≡ pos n → ⊥) → record_left s o ≡ o

unfoldable pub RefusedWriteStays : Type 0
RefusedWriteStays = (s o : List ℕ) → ((n : ℕ) → write_result s (length o) ≡ pos n → ⊥) → frame_left_by s o ≡ o

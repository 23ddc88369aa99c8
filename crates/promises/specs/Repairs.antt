-- What a correction does to what is read (document 01, "Parity and correction"; document 02, K5), and what none shows.
-- The handbook quotes these; each is about the definitions that the contract of `reader::read` cites.
use Rattle.std.specs.Prelude.{◌≡◌, List, [], ◌∷◌, ℕ, ◌+◌, ◌%◌, ◌<◌, ◌≤◌}
use Rattle.laws.specs.Tabulate.{tabulate}
use Rattle.laws.specs.Total.{bit}
use Rattle.record.specs.Fields.{index_of, width_of}
use Rattle.record.specs.declared.Record.{Record}
use Rattle.frame.specs.Places.{Name, place_of}
use Rattle.frame.specs.Places.Name.{PD, PG, HP, SP}
use Rattle.frame.specs.Parity.{guarded_name, guarded_place, inverted}
use Rattle.frame.specs.Frame.{bit_at}
use Rattle.frame.specs.Answers.{reading_of, correction_number}
use Rattle.frame.specs.declared.Correction.{Correction}
use Rattle.frame.specs.declared.Correction.TheVariants.{Clean, Parity, Data}
use Rattle.promises.specs.Frames.{Eighteen, Made, flipped, NoneGuarded, ExactlyTwo}
use Rattle.promises.specs.Worked.{only}

-- "Guarded places, with their correction number: HP-0 1 (place 21), HP-1 2 (51), PD(1)-5 3 (11), HP-2 4 (94), .."
unfoldable pub FifteenPlaces : Type 0
FifteenPlaces =
    tabulate {A = Name × ℕ} (λ k. (guarded_name (k + 1), guarded_place (k + 1))) 15
    ≡ (HP 0, 21) ∷ (HP 1, 51) ∷ (PD 1 5, 11) ∷ (HP 2, 94) ∷ (PD 1 6, 61) ∷ (PD 1 7, 114) ∷ (PG 1 4, 41) ∷ (HP 3, 134) ∷
    (PG 2 4, 124) ∷ (PD 3 5, 143) ∷ (PD 3 6, 83) ∷ (PD 3 7, 31) ∷ (PG 3 4, 72) ∷ (PG 4 4, 1) ∷ (SP, 104) ∷ []

-- bit i of the index in field f, as a frame is read
abbrev pub read_bit : List ℕ → ℕ → ℕ → ℕ
read_bit s f i = bit (index_of (reading_of s).indices f) i

-- bit i of field f is read as it came
abbrev pub AsItCame : List ℕ → ℕ → ℕ → Type 0
AsItCame s f i = read_bit s f i ≡ bit_at s (place_of f i)

-- "0 changes nothing": clean
unfoldable pub CleanChangesNothing : Type 0
CleanChangesNothing =
    (s : List ℕ) → Eighteen s → (reading_of s).correction ≡ Clean → (f i : ℕ) → 1 ≤ f → f ≤ 28 → i < width_of f
    → AsItCame s f i

-- "1, 2, 4, 8 change no data bit": a parity bit hit
unfoldable pub ParityHitChangesNothing : Type 0
ParityHitChangesNothing =
    (s : List ℕ) → Eighteen s → (n : ℕ) → (reading_of s).correction ≡ Parity n
    → (f i : ℕ) → 1 ≤ f → f ≤ 28 → i < width_of f → AsItCame s f i

-- "the others invert one data bit": exactly the bit that the case names, and every other bit is read as it came
pub record OneInverted (s : List ℕ) (f i : ℕ) : Type 0 where
  pub field_first : 1 ≤ f
  pub field_last : f ≤ 28
  pub bit_within : i < width_of f
  pub there : read_bit s f i ≡ inverted (bit_at s (place_of f i))
  pub elsewhere : (g j : ℕ) → 1 ≤ g → g ≤ 28 → j < width_of g → (((g ≡ f) × (j ≡ i)) → ⊥) → AsItCame s g j

unfoldable pub DataHitInvertsOne : Type 0
DataHitInvertsOne =
    (s : List ℕ) → Eighteen s → (f i : ℕ) → (reading_of s).correction ≡ Data f i → OneInverted s f i

-- the sixteen corrections, each with its number: clean, four parity bits, and eleven data bits by field and bit. A case
-- is named as document 01 names the guarded bit.
pub data Numbered : ℕ → Correction → Type 0 where
  none : Numbered 0 Clean
  HP-0 : Numbered 1 (Parity 1)
  HP-1 : Numbered 2 (Parity 2)
  PD1-5 : Numbered 3 (Data 11 5)
  HP-2 : Numbered 4 (Parity 4)
  PD1-6 : Numbered 5 (Data 11 6)
  PD1-7 : Numbered 6 (Data 11 7)
  PG1-4 : Numbered 7 (Data 12 4)
  HP-3 : Numbered 8 (Parity 8)
  PG2-4 : Numbered 9 (Data 16 4)
  PD3-5 : Numbered 10 (Data 19 5)
  PD3-6 : Numbered 11 (Data 19 6)
  PD3-7 : Numbered 12 (Data 19 7)
  PG3-4 : Numbered 13 (Data 20 4)
  PG4-4 : Numbered 14 (Data 24 4)
  SP-0 : Numbered 15 (Data 27 0)

-- whatever bytes are read, the correction is one of these, and its number is the correction number
unfoldable pub CaseOfEach : Type 0
CaseOfEach = (s : List ℕ) → Numbered (correction_number (reading_of s)) (reading_of s).correction

-- each case has one number, and each number one case
unfoldable pub OneNumberEach : Type 0
OneNumberEach =
    ((m n : ℕ) (c : Correction) → Numbered m c → Numbered n c → m ≡ n)
    × ((n : ℕ) (c d : Correction) → Numbered n c → Numbered n d → c ≡ d)

-- "Two flips among the fifteen .. are reported, but never mended": the number is that of a third place.
unfoldable pub TwoNeverMended : Type 0
TwoNeverMended =
    (r : Record) (w e : List ℕ) → Made r w → Eighteen e → (m n : ℕ) → ExactlyTwo e m n
    → (correction_number (reading_of (flipped w e)) ≡ m → ⊥) × (correction_number (reading_of (flipped w e)) ≡ n → ⊥)

-- Flips outside the fifteen guarded places give number 0, and each is read as it was flipped.
unfoldable pub UnguardedUnseen : Type 0
UnguardedUnseen =
    (r : Record) (w e : List ℕ) → Made r w → Eighteen e → NoneGuarded e
    → (correction_number (reading_of (flipped w e)) ≡ 0)
    × ((f i : ℕ) → 1 ≤ f → f ≤ 28 → i < width_of f
    → read_bit (flipped w e) f i ≡ (bit (index_of r f) i + bit_at e (place_of f i)) % 2)

-- Three flips among the fifteen can give number 0: those of places 21, 51 and 11 (numbers 1, 2 and 3) do in every
-- frame our writer made, and PD(1)-5 is then read wrong.
unfoldable pub ThreeUnseen : Type 0
ThreeUnseen =
    (r : Record) (w : List ℕ) → Made r w
    → (correction_number (reading_of (flipped w (only (21 ∷ 51 ∷ 11 ∷ [])))) ≡ 0)
    × (read_bit (flipped w (only (21 ∷ 51 ∷ 11 ∷ []))) 11 5 ≡ (bit (index_of r 11) 5 + 1) % 2)

-- What correction did in a frame (document 02, K5): "clean, a parity bit hit with its number, a data bit inverted with
-- its field and bit". The correction number of document 01 is a definition over the cases.
use Rattle.std.specs.Prelude.{Bool, cond, ℕ, eqb, ltb}
use Rattle.laws.specs.Lowest.{lowest}
use Rattle.laws.specs.Table.{both}
use Rattle.frame.specs.Places.{Name, field_of, bit_of}
use Rattle.frame.specs.Parity.{guarded_name}
use Rattle.frame.specs.declared.Correction.{Correction}
use Rattle.frame.specs.declared.Correction.TheVariants.{Clean, Parity, Data}

-- what the number n of a guarded bit says: that it is a parity bit, which belongs to no field, and was hit; or that it
-- is a data bit and was inverted
abbrev pub hit_of : ℕ → Name → Correction
hit_of n x = cond (eqb (field_of x) 0) (Parity n) (Data (field_of x) (bit_of x))

-- the correction that a number means; 0 changes nothing, and no bit has a number over 15
unfoldable pub correction_of : ℕ → Correction
correction_of n = cond (eqb n 0) Clean (cond (ltb n 16) (hit_of n (guarded_name n)) Clean)

-- a name is that of bit i of field f
abbrev pub names : ℕ → ℕ → Name → Bool
names f i x = both (eqb (field_of x) f) (eqb (bit_of x) i)

-- the number under which bit i of field f is guarded, or 0 if it is none of the eleven guarded data bits
unfoldable pub data_number : ℕ → ℕ → ℕ
data_number f i = cond (eqb f 0) 0 (lowest (λ n. names f i (guarded_name n)) 15)

-- the correction number of each case
abbrev pub number_of_case : Correction → ℕ
number_of_case Clean = 0
number_of_case (Parity n) = n
number_of_case (Data f i) = data_number f i

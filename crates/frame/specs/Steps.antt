-- What the steps of reading and writing answer.
use Rattle.std.specs.Prelude.{cond, List, map, ℕ, ◌+◌, ◌-◌, ◌*◌, ◌/◌, ◌%◌, ◌^◌, eqb, ltb, get_or, set}
use Rattle.std.specs.Int.Bits.{bit_xor}
use Rattle.laws.specs.Total.{total, bit}
use Rattle.laws.specs.Tabulate.{tabulate}
use Rattle.record.specs.Fields.{index_of, record_with}
use Rattle.record.specs.declared.Record.{Record}
use Rattle.frame.specs.Places.{Name, places, field_of, bit_of}
use Rattle.frame.specs.Parity.{guarded, number_of}
use Rattle.frame.specs.Frame.{share}
use Rattle.frame.specs.declared.Correction.{Correction}
use Rattle.frame.specs.declared.Correction.TheVariants.{Clean, Parity, Data}

-- a name as one number, the field above its bit
abbrev pub entry_of : Name → ℕ
entry_of x = 16 * field_of x + bit_of x

unfoldable pub entries : List ℕ
entries = map entry_of places

unfoldable pub guarded_entries : List ℕ
guarded_entries = map entry_of guarded

-- the indices by field as far as the first p places of the bits b give them
unfoldable pub indices_up_to : (ℕ → ℕ) → ℕ → List ℕ
indices_up_to b p = tabulate (λ f. total (share b f) p) 29

-- the bit that an entry names, in a list of indices by field
abbrev pub bit_of_entry : List ℕ → ℕ → ℕ
bit_of_entry v e = bit (get_or v (e / 16) 0) (e % 16)

-- the guarded bit of correction number n there, and the correction number of the list
abbrev pub guarded_in : List ℕ → ℕ → ℕ
guarded_in v n = bit_of_entry v (get_or guarded_entries (n - 1) 0)

abbrev pub number_in : List ℕ → ℕ
number_in v = number_of (guarded_in v)

-- the indices with bit i of field f inverted; where there is no such bit in the list, as they are
abbrev pub inverting : List ℕ → ℕ → ℕ → List ℕ
inverting v f i = cond (ltb f 29) (cond (ltb i 16) (set v f (bit_xor (get_or v f 0) (2 ^ i))) v) v

-- the indices after a correction: a data hit inverts the bit that it names, and nothing else changes any
abbrev pub mended_fields : List ℕ → Correction → List ℕ
mended_fields v Clean = v
mended_fields v (Parity n) = v
mended_fields v (Data f i) = inverting v f i

-- the record of a list of indices by field, and back, the parity bits 0
abbrev pub record_by : List ℕ → Record
record_by v = record_with (λ f. get_or v f 0)

unfoldable pub fields_of : Record → List ℕ
fields_of r = tabulate (λ f. cond (eqb f 0) 0 (index_of r f)) 29

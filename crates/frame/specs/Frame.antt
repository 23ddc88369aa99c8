-- Eighteen bytes and the 144 bits in them; reading and writing a frame.
use Rattle.std.specs.Prelude.{cond, List, ℕ, ◌-◌, ◌*◌, ◌/◌, ◌%◌, ◌^◌, eqb, get_or}
use Rattle.laws.specs.Lowest.{lowest}
use Rattle.laws.specs.Table.{both}
use Rattle.laws.specs.Total.{total, bit, from_bits}
use Rattle.laws.specs.Tabulate.{tabulate}
use Rattle.record.specs.Fields.{index_of, record_with}
use Rattle.record.specs.declared.Record.{Record}
use Rattle.frame.specs.Places.{field_at, bit_in}
use Rattle.frame.specs.Parity.{number}

-- where place p stands among the eighteen bytes: its byte, and its bit there with 0 the lowest. This is the house
-- rule on the order of bits, and nothing else knows of it: place 1 is the top bit of byte 0, place 144 the lowest bit
-- of byte 17.
abbrev pub standing : ℕ → ℕ × ℕ
standing p = ((p - 1) / 8, 7 - (p - 1) % 8)

abbrev pub byte_of : ℕ → ℕ
byte_of p = (standing p).0

abbrev pub shift_of : ℕ → ℕ
shift_of p = (standing p).1

-- and back: the place that stands at bit i of byte k, or 0 if none does
unfoldable pub place_at : ℕ → ℕ → ℕ
place_at k i = lowest (λ p. both (eqb (byte_of p) k) (eqb (shift_of p) i)) 144

-- the bit at place p of a frame
unfoldable pub bit_at : List ℕ → ℕ → ℕ
bit_at s p = bit (get_or s (byte_of p) 0) (shift_of p)

-- the eighteen bytes that have the bits b
unfoldable pub packed : (ℕ → ℕ) → List ℕ
packed b = tabulate (λ k. from_bits (λ i. b (place_at k i)) 8) 18

-- the index in field f of the bits b: each place that belongs to the field counts with the weight of its bit
abbrev pub share : (ℕ → ℕ) → ℕ → ℕ → ℕ
share b f p = cond (eqb (field_at p) f) (b p * 2 ^ bit_in p) 0

unfoldable pub index_in : (ℕ → ℕ) → ℕ → ℕ
index_in b f = total (share b f) 144

-- the record in the bits b
abbrev pub record_of : (ℕ → ℕ) → Record
record_of b = record_with (index_in b)

-- the bits sent for the indices v, field by field, the parity bits under 0
unfoldable pub sent : (ℕ → ℕ) → ℕ → ℕ
sent v p = bit (v (field_at p)) (bit_in p)

-- the indices of a record with parity bits h
abbrev pub with_parity : Record → ℕ → ℕ → ℕ
with_parity r h f = cond (eqb f 0) h (index_of r f)

-- the parity bits of a record: with them HP-i makes even the sum over itself and the data bits whose number has bit i
unfoldable pub parity_of : Record → ℕ
parity_of r = number (sent (with_parity r 0))

-- the frame of a record
unfoldable pub frame_of : Record → List ℕ
frame_of r = packed (sent (with_parity r (parity_of r)))

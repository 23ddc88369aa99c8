-- The C record (document 01, "What the work covers"): 28 byte pairs, 16 bits each, little-endian, in field order.
use Rattle.std.specs.Prelude.{cond, List, ℕ, ◌+◌, ◌-◌, ◌*◌, ◌/◌, ◌%◌, eqb, length, Option, None, Some, get_or, set}
use Rattle.laws.specs.Bytes.{pair_at}
use Rattle.laws.specs.Tabulate.{tabulate}
use Rattle.record.specs.Fields.{indices_of, record_with}
use Rattle.record.specs.declared.Record.{Record}

-- a list with an index put into the two bytes from i on, the lower half first
abbrev pub with_pair : List ℕ → ℕ → ℕ → List ℕ
with_pair s i x = set (set s i (x % 256)) (i + 1) (x / 256)

-- byte i, from 0 on, of indices one after the other: of the pair of index i / 2 the lower half first
abbrev pub pair_byte : List ℕ → ℕ → ℕ
pair_byte l i = cond (eqb (i % 2) 0) (get_or l (i / 2) 0 % 256) (get_or l (i / 2) 0 / 256)

-- the 56 bytes of a record
unfoldable pub bytes_of : Record → List ℕ
bytes_of r = tabulate (pair_byte (indices_of r)) 56

-- what a buffer that held o holds when a record was put into it: one of 56 bytes the record's, any other what it held
unfoldable pub bytes_left : Record → List ℕ → List ℕ
bytes_left r o = cond (eqb (length o) 56) (bytes_of r) o

-- the index of field f in such bytes
abbrev pub pair_in : List ℕ → ℕ → ℕ
pair_in s f = pair_at s (2 * (f - 1))

-- the record in 56 bytes
unfoldable pub record_in : List ℕ → Record
record_in s = record_with (pair_in s)

-- what is taken out of any bytes: of those that are not 56 nothing
unfoldable pub taken_of : List ℕ → Option Record
taken_of s = cond (eqb (length s) 56) (Some (record_in s)) None

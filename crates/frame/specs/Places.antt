-- The assignment of the 144 bits of a frame (3.8.2), in the standard's own names.
use Rattle.std.specs.Prelude.{cond, List, [], ◌∷◌, ℕ, suc, ◌+◌, ◌-◌, ◌*◌, eqb, get_or}
use Rattle.laws.specs.Table.{both}
use Rattle.record.specs.Fields.{widths}

-- a bit of a frame, by its abbreviation; the last number is the bit's, with 0 the least significant: LSP j-i is `LSP
-- j i`, PD(n)-i is `PD n i`
pub data Name : Type 0 where
  LSP PD PG CI CG : ℕ → ℕ → Name
  HP : ℕ → Name
  SP SY : Name

-- the table of 3.8.2, column by column; order of transmission is from bit 1 to bit 144
unfoldable pub places : List Name
places =
    -- bits 1 to 36
    PG 4 4 ∷ PD 3 4 ∷ LSP 1 1 ∷ CG 2 4 ∷
    CI 3 3 ∷ CI 1 8 ∷ PD 4 0 ∷ LSP 8 0 ∷
    PG 2 3 ∷ CG 3 0 ∷ PD 1 5 ∷ LSP 3 3 ∷
    CI 2 3 ∷ CI 4 4 ∷ PD 2 1 ∷ LSP 10 0 ∷
    PG 1 3 ∷ CG 4 0 ∷ LSP 5 2 ∷ PD 3 0 ∷
    HP 0 ∷ CI 1 1 ∷ CI 4 8 ∷ LSP 2 2 ∷
    PG 3 1 ∷ PD 4 5 ∷ CG 1 3 ∷ CI 3 5 ∷
    LSP 7 0 ∷ CI 2 1 ∷ PD 3 7 ∷ CI 1 0 ∷
    PG 4 0 ∷ LSP 4 3 ∷ CG 3 1 ∷ CI 1 5 ∷
    -- bits 37 to 72
    PD 2 0 ∷ CI 4 1 ∷ LSP 9 0 ∷ CI 3 8 ∷
    PG 1 4 ∷ CG 2 2 ∷ PD 1 3 ∷ LSP 6 1 ∷
    CI 3 4 ∷ CI 2 2 ∷ CG 1 4 ∷ PD 2 3 ∷
    LSP 1 2 ∷ PG 3 2 ∷ HP 1 ∷ PD 3 1 ∷
    CG 4 3 ∷ LSP 8 1 ∷ PG 3 0 ∷ CI 2 8 ∷
    PD 4 1 ∷ CI 4 0 ∷ LSP 3 2 ∷ PG 2 0 ∷
    PD 1 6 ∷ CG 2 0 ∷ CI 3 6 ∷ LSP 10 1 ∷
    PG 1 1 ∷ CI 4 7 ∷ PD 3 3 ∷ CG 1 2 ∷
    LSP 5 3 ∷ CI 1 6 ∷ LSP 2 0 ∷ PG 3 4 ∷
    -- bits 73 to 108
    PD 1 4 ∷ CG 3 2 ∷ LSP 7 1 ∷ CI 2 7 ∷
    CI 3 0 ∷ PD 2 5 ∷ LSP 4 1 ∷ CG 1 0 ∷
    PG 4 3 ∷ LSP 9 1 ∷ PD 3 6 ∷ CI 1 4 ∷
    CG 2 1 ∷ LSP 6 2 ∷ CI 4 3 ∷ PG 2 2 ∷
    PD 4 3 ∷ LSP 1 0 ∷ CG 4 2 ∷ LSP 8 2 ∷
    CI 2 4 ∷ HP 2 ∷ PD 2 2 ∷ LSP 3 0 ∷
    PG 1 2 ∷ CG 3 4 ∷ LSP 10 2 ∷ CI 4 5 ∷
    CI 2 0 ∷ PD 1 2 ∷ LSP 5 1 ∷ SP ∷
    PG 4 2 ∷ CG 2 3 ∷ LSP 2 1 ∷ PD 4 4 ∷
    -- bits 109 to 144
    CI 1 2 ∷ PG 2 1 ∷ CI 3 7 ∷ LSP 4 0 ∷
    CI 2 5 ∷ PD 1 7 ∷ PG 1 0 ∷ CG 4 4 ∷
    LSP 5 0 ∷ PD 4 2 ∷ CI 1 3 ∷ CI 3 1 ∷
    LSP 7 2 ∷ CI 4 2 ∷ PD 1 1 ∷ PG 2 4 ∷
    CG 3 3 ∷ LSP 3 1 ∷ CI 1 7 ∷ PD 3 2 ∷
    CI 2 6 ∷ LSP 9 2 ∷ PG 4 1 ∷ CG 1 1 ∷
    PD 2 4 ∷ HP 3 ∷ LSP 6 0 ∷ PG 3 3 ∷
    CI 4 6 ∷ PD 1 0 ∷ LSP 2 3 ∷ CG 4 1 ∷
    CI 3 2 ∷ LSP 4 2 ∷ PD 3 5 ∷ SY ∷
    []

-- the field that a bit belongs to, numbered as in document 01; the parity bits belong to no field of the record and
-- stand under 0
abbrev pub field_of : Name → ℕ
field_of (LSP j i) = j
field_of (PD n i) = 10 + 4 * (n - 1) + 1
field_of (PG n i) = 10 + 4 * (n - 1) + 2
field_of (CI n i) = 10 + 4 * (n - 1) + 3
field_of (CG n i) = 10 + 4 * (n - 1) + 4
field_of SP = 27
field_of SY = 28
field_of (HP i) = 0

-- its bit in that field
abbrev pub bit_of : Name → ℕ
bit_of (LSP j i) = i
bit_of (PD n i) = i
bit_of (PG n i) = i
bit_of (CI n i) = i
bit_of (CG n i) = i
bit_of SP = 0
bit_of SY = 0
bit_of (HP i) = i

-- what stands at a place, the field and the bit there
abbrev pub name_at : ℕ → Name
name_at p = get_or places (p - 1) (HP 0)

abbrev pub field_at : ℕ → ℕ
field_at p = field_of (name_at p)

abbrev pub bit_in : ℕ → ℕ
bit_in p = bit_of (name_at p)

-- how many bits a field has; the four parity bits stand under 0
abbrev pub bits_in : ℕ → ℕ
bits_in f = get_or (4 ∷ widths) f 0

-- the place of bit i of field f: the first of a list of names, counted from p, or 0 if there is none
unfoldable pub seek : ℕ → ℕ → List Name → ℕ → ℕ
seek f i [] p = 0
seek f i (x ∷ xs) p = cond (both (eqb (field_of x) f) (eqb (bit_of x) i)) p (seek f i xs (suc p))

abbrev pub place_of : ℕ → ℕ → ℕ
place_of f i = seek f i places 1

-- Error correction (3.9): the guarded bits, the correction number, and the bit that it inverts.
use Rattle.std.specs.Prelude.{cond, List, [], ◌∷◌, ℕ, zero, suc, ◌+◌, ◌-◌, ◌*◌, ◌%◌, eqb, get_or}
use Rattle.laws.specs.Total.{total, bit, from_bits}
use Rattle.frame.specs.Places.{Name, field_of, bit_of, place_of}
use Rattle.frame.specs.Places.Name.{PD, PG, HP, SP}

-- the fifteen guarded bits in the order of their correction numbers, 1 to 15
abbrev pub guarded : List Name
guarded =
    HP 0 ∷ HP 1 ∷ PD 1 5 ∷ HP 2 ∷ PD 1 6 ∷ PD 1 7 ∷ PG 1 4 ∷
    HP 3 ∷ PG 2 4 ∷ PD 3 5 ∷ PD 3 6 ∷ PD 3 7 ∷ PG 3 4 ∷ PG 4 4 ∷ SP ∷ []

-- the bit that has correction number n
abbrev pub guarded_name : ℕ → Name
guarded_name n = get_or guarded (n - 1) (HP 0)

-- its place; no place has number 0
unfoldable pub guarded_place : ℕ → ℕ
guarded_place zero = 0
guarded_place (suc n) = place_of (field_of (guarded_name (suc n))) (bit_of (guarded_name (suc n)))

-- computed and received parity compared: of the guarded bits g 1 to g 15, those whose number has bit i, HP-i itself
-- among them, have an even sum (0) or an odd one (1)
abbrev pub check : (ℕ → ℕ) → ℕ → ℕ
check g i = total (λ n. bit n i * g n) 15 % 2

-- the four results as one number, the result for HP-0 lowest
abbrev pub number_of : (ℕ → ℕ) → ℕ
number_of g = from_bits (check g) 4

-- a bit inverted
abbrev pub inverted : ℕ → ℕ
inverted x = (x + 1) % 2

-- in the bits of a frame, place by place: the correction number, and the bits with the bit of that number inverted
unfoldable pub number : (ℕ → ℕ) → ℕ
number b = number_of (λ n. b (guarded_place n))

abbrev pub inverted_at : ℕ → (ℕ → ℕ) → ℕ → ℕ
inverted_at at b p = cond (eqb p at) (inverted (b p)) (b p)

unfoldable pub mended : (ℕ → ℕ) → ℕ → ℕ
mended b = inverted_at (guarded_place (number b)) b

-- The 512 codes (3.3.2), and what writing one answers (document 01, refusals 1 and 2).
use Rattle.std.specs.Prelude.{List, [], ◌∷◌, ℕ, ◌*◌, ◌-◌, leb, eqb, ℤ, length, take, drop, Result, Ok, Err}
use Rattle.laws.specs.Unless.{unless}
use Rattle.codebook.specs.Book.{book}
use Rattle.codebook.specs.declared.Refusal.{Refusal}
use Rattle.codebook.specs.declared.Refusal.TheVariants.{WrongLength, TooLarge}

-- code n: elements 2(511 - n) to 2(511 - n) + 59
unfoldable pub code_of : ℕ → List ℤ
code_of n = take 60 (drop (2 * (511 - n)) book)

-- what writing code n into a buffer of so many elements answers: the buffer's length is tried before the index
abbrev pub written_of : ℕ → ℕ → Result (Unit {0}) Refusal
written_of n long =
    unless (eqb long 60) (Err WrongLength)
    (unless (leb n 511) (Err TooLarge) (Ok tt))

-- what a buffer that held l holds after the answer: a refusal writes nothing
abbrev pub left_after : Result (Unit {0}) Refusal → ℕ → List ℤ → List ℤ
left_after (Ok u) n l = code_of n
left_after (Err e) n l = l

-- the same after writing code n into it
unfoldable pub code_left : ℕ → List ℤ → List ℤ
code_left n l = left_after (written_of n (length l)) n l

-- the refusal's number, 0 where the code was written
abbrev pub refusal_of : Result (Unit {0}) Refusal → ℕ
refusal_of (Ok u) = 0
refusal_of (Err WrongLength) = 1
refusal_of (Err TooLarge) = 2

-- what the refusal tells: a lone index is field 0
abbrev pub tells_of : Result (Unit {0}) Refusal → List ℕ
tells_of (Ok u) = []
tells_of (Err WrongLength) = []
tells_of (Err TooLarge) = 0 ∷ []

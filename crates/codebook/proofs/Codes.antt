-- The returns of `write_code`: each refusal, and the sixty elements. What `copy_from` copies.
-- Assumes nothing.
use mathlib.Core.Path.{◌≡◌, refl}
use mathlib.Core.List.{List}
use Prim.Native.Nat.{ℕ, ◌+◌, ◌-◌, ◌*◌, ◌<◌, ◌≤◌}
use native.Mathlib.Omega.{arith}
use borrow.Author.Tests.{eq-eqb, ne_eqb, le-leb, lt-leb}
use lib.IntN.{ℤ}
use lib.ListN.{length, take, drop}
use Rattle.std.specs.Prelude.{Result, Ok, Err}
use Rattle.codebook.specs.Book.{book}
use Rattle.codebook.specs.Code.{code_of, written_of, code_left}
use Rattle.codebook.specs.declared.Refusal.{Refusal}
use Rattle.codebook.specs.declared.Refusal.TheVariants.{WrongLength, TooLarge}

-- an answer, and what it leaves in a buffer that held l
abbrev pub Answers : ℕ → List ℤ → Result (Unit {0}) Refusal → List ℤ → Type 0
Answers n l r left = (r ≡ written_of n (length l)) × (left ≡ code_left n l)

-- a buffer that is not sixty elements is refused, and stays
pub refused_length : (n : ℕ) (l : List ℤ) → (length l ≡ 60 → ⊥) → Answers n l (Err WrongLength) l
unfolding code_left
refused_length n l h = let t = ne_eqb (length l) 60 h in (rw t refl, rw t refl)

-- an index over 511 is refused, and the buffer stays
pub refused_index : (n : ℕ) (l : List ℤ) → length l ≡ 60 → 511 < n → Answers n l (Err TooLarge) l
unfolding code_left
refused_index n l e h =
    let t = eq-eqb (length l) 60 e in
    let u = lt-leb n 511 h in
    (rw (t, u) refl, rw (t, u) refl)

-- an index and a buffer within their bounds have the code written
pub laid : (n : ℕ) (l left : List ℤ) → length l ≡ 60 → n ≤ 511 → left ≡ code_of n → Answers n l (Ok tt) left
unfolding code_left
laid n l left e h p =
    let t = eq-eqb (length l) 60 e in
    let u = le-leb n 511 h in
    (rw (t, u) refl, rw (t, u) p)

-- the sixty elements of the book from the code's first on are the code
pub cut : (n : ℕ) {start : ℕ} {s : List ℤ} → s ≡ book → start ≡ 2 * (511 - n)
    → take (start + 60 - start) (drop start s) ≡ code_of n
unfolding code_of
cut n {start} b e =
    let long : start + 60 - start ≡ 60 = omega arith in
    rw (long, b, e) refl

-- What the definitions of this crate come to, for callers: each code has sixty elements, each -1, 0 or 1, and overlaps
-- its neighbour.
-- Assumes nothing.
use mathlib.Core.Path.{◌≡◌, ◌∙◌, sym, refl, ap}
use mathlib.Core.Bool.{Bool}
use mathlib.Core.Logic.{◌⊎◌, inl, inr}
use Prim.Native.Nat.{ℕ, ◌+◌, ◌-◌, ◌*◌, ◌<◌, ◌≤◌}
use native.Mathlib.Omega.{arith}
use native.Mathlib.Decide.{ℕ_discrete}
use lib.Dec.{T, leb, leb→le}
use lib.IntN.{ℤ, pos, negsuc, nat_abs}
use lib.ListN.{length, get_or, drop, length-drop}
use lib.Seq.{length-take-le, get_or-take, get_or-drop}
use Rattle.laws.specs.Table.{every}
use Rattle.laws.proofs.Table.{at}
use Rattle.codebook.specs.Book.{book}
use Rattle.codebook.specs.Code.{code_of}

-- the book has 1,082 elements
pub length_book : length book ≡ 1082
unfolding book
length_book = refl

-- an element is -1, 0 or 1: no larger than 1 either way
abbrev pub ternary : ℕ → ℤ → Bool
ternary i z = leb (nat_abs z) 1

-- tested once, over the whole book
pub book_ternary : T (every ternary 0 book)
unfolding book
book_ternary = tt

-- so is each element of the book
pub element_ternary : (i : ℕ) → i < 1082 → nat_abs (get_or book i (pos 0)) ≤ 1
element_ternary i h = leb→le _ _ (at (pos 0) ternary book book_ternary i (omega (arith, length_book)))

-- a code is cut out of the book whole
pub code_element : (n k : ℕ) → k < 60 → get_or (code_of n) k (pos 0) ≡ get_or book (2 * (511 - n) + k) (pos 0)
unfolding code_of
code_element n k h = get_or-take 60 (drop (2 * (511 - n)) book) k (pos 0) h ∙ get_or-drop (2 * (511 - n)) book k (pos 0)

-- each code has sixty elements
pub length_code : (n : ℕ) → length (code_of n) ≡ 60
unfolding code_of
length_code n =
    length-take-le 60 (drop (2 * (511 - n)) book) (omega (arith, length-drop (2 * (511 - n)) book, length_book))

-- each element of each code is no larger than 1 either way
pub code_ternary : (n k : ℕ) → k < 60 → nat_abs (get_or (code_of n) k (pos 0)) ≤ 1
code_ternary n k h = rw (code_element n k h) (element_ternary (2 * (511 - n) + k) (omega arith))

-- and such a number is -1, 0 or 1
pub one_of_three : (z : ℤ) → nat_abs z ≤ 1 → (z ≡ negsuc 0) ⊎ ((z ≡ pos 0) ⊎ (z ≡ pos 1))
one_of_three (negsuc n) h = inl (ap negsuc (omega arith))
one_of_three (pos n) h = inr (go (ℕ_discrete n 0))
  where
    go : Dec (n ≡ 0) → (pos n ≡ pos 0) ⊎ (pos n ≡ pos 1)
    go (yes e) = inl (ap pos e)
    go (no e) = inr (ap pos (omega arith))

-- element k + 2 of code n is element k of code n - 1
pub overlap : (n k : ℕ) → 1 ≤ n → n ≤ 511 → k ≤ 57 → get_or (code_of n) (k + 2) (pos 0) ≡ get_or (code_of (n - 1)) k (pos 0)
overlap n k a b h =
    let e : 2 * (511 - n) + (k + 2) ≡ 2 * (511 - (n - 1)) + k = omega arith in
    code_element n (k + 2) (omega arith) ∙ ap (λ (i : ℕ). get_or book i (pos 0)) e
    ∙ sym (code_element (n - 1) k (omega arith))

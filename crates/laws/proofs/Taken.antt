-- The first elements of a list.
-- Assumes nothing.
use mathlib.Core.Path.{◌≡◌, ◌∙◌, refl, ap}
use mathlib.Core.List.{List, [], ◌∷◌}
use Prim.Native.Nat.{ℕ, zero, suc, ◌≤◌, min}
use native.Mathlib.Omega.{arith}
use native.Mathlib.Decide.{dec_le}
use lib.ListN.{length, take, length-take}
use lib.Seq.{take-take, take_all}

-- the first n of the first m are the first of the lesser number
pub take_least : {A : Type 0} (n m : ℕ) (l : List A) → take n (take m l) ≡ take (min n m) l
take_least n m l = go (dec_le n m)
  where
    go : Dec (n ≤ m) → take n (take m l) ≡ take (min n m) l
    go (yes h) =
        let e : n ≡ min n m = omega arith in take-take n m l h ∙ ap (λ (k : ℕ). take k l) e
    go (no h) =
        let e : m ≡ min n m = omega arith in
        let f = length-take m l in
        take_all n (take m l) (omega (arith, f)) ∙ ap (λ (k : ℕ). take k l) e

-- as many as the first n are, are those
pub take_length_take : {A : Type 0} (n : ℕ) (l : List A) → take (length (take n l)) l ≡ take n l
take_length_take zero l = refl
take_length_take (suc n) [] = refl
take_length_take (suc n) (x ∷ l) = ap (λ (y : List _). x ∷ y) (take_length_take n l)

-- a list without length is empty
pub empty : {A : Type 0} (l : List A) → length l ≤ 0 → l ≡ []
empty [] h = refl
empty (x ∷ l) h = absurd (omega arith)

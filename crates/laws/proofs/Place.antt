-- What `place_in` answers: the first place at which the number stands, or the length, and then it stands nowhere.
-- Assumes nothing.
use mathlib.Core.Path.{◌≡◌, ◌∙◌, sym, refl, ap}
use mathlib.Core.Bool.{Bool, true, false, cond}
use mathlib.Core.List.{List, [], ◌∷◌}
use Prim.Native.Nat.{ℕ, zero, suc, ◌<◌, ◌≤◌}
use native.Mathlib.Omega.{arith}
use lib.Dec.{eqb}
use lib.ListN.{length, get_or}
use borrow.Author.Tests.{eqb-true, eq-eqb}
use Rattle.laws.specs.Place.{place_in}

-- what the test at the first entry makes of the place
place_step : (x y : ℕ) (ys : List ℕ) (b : Bool) → eqb x y ≡ b → place_in x (y ∷ ys) ≡ cond b 0 (suc (place_in x ys))
unfolding place_in
place_step x y ys b e = ap (λ (t : Bool). cond t 0 (suc (place_in x ys))) e

-- below the length, the number stands at its place
pub place_entry : (x : ℕ) (xs : List ℕ) → place_in x xs < length xs → get_or xs (place_in x xs) 0 ≡ x
place_entry x [] h = absurd (omega arith)
place_entry x (y ∷ ys) h = here (place_entry x ys) (eqb x y) refl
  where
    here : (place_in x ys < length ys → get_or ys (place_in x ys) 0 ≡ x) → (b : Bool) → eqb x y ≡ b
        → get_or (y ∷ ys) (place_in x (y ∷ ys)) 0 ≡ x
    here rest true e = rw (place_step x y ys true e) (sym (eqb-true x y e))
    here rest false e = rw (place_step x y ys false e) (rest (omega (arith, place_step x y ys false e)))

-- the place is no later than any at which the number stands
pub place_first : (xs : List ℕ) (k : ℕ) → k < length xs → place_in (get_or xs k 0) xs ≤ k
place_first [] k h = absurd (omega arith)
place_first (y ∷ ys) zero h = rw (place_step y y ys true (eq-eqb y y refl)) (omega arith)
place_first (y ∷ ys) (suc k) h = here (place_first ys k (omega arith)) (eqb (get_or ys k 0) y) refl
  where
    here : place_in (get_or ys k 0) ys ≤ k → (b : Bool) → eqb (get_or ys k 0) y ≡ b → place_in (get_or ys k 0) (y ∷ ys) ≤ suc k
    here rest true e = rw (place_step (get_or ys k 0) y ys true e) (omega arith)
    here rest false e = rw (place_step (get_or ys k 0) y ys false e) (omega arith)

-- a place is at most the list's length
pub place_within : (x : ℕ) (xs : List ℕ) → place_in x xs ≤ length xs
unfolding place_in
place_within x [] = omega arith
place_within x (y ∷ ys) = here (place_within x ys) (eqb x y) refl
  where
    here : place_in x ys ≤ length ys → (b : Bool) → eqb x y ≡ b → place_in x (y ∷ ys) ≤ suc (length ys)
    here rest true e = rw (place_step x y ys true e) (omega arith)
    here rest false e = rw (place_step x y ys false e) (omega arith)

-- where a function leads from each entry back to its place, each entry's place is where it stands
pub place_back : (back : ℕ → ℕ) (xs : List ℕ) → ((k : ℕ) → k < length xs → back (get_or xs k 0) ≡ k)
    → (k : ℕ) → k < length xs → place_in (get_or xs k 0) xs ≡ k
place_back back xs to k h =
    let p : ℕ = place_in (get_or xs k 0) xs in
    let l : place_in (get_or xs k 0) xs < length xs = omega (arith, place_first xs k h) in
    sym (to (place_in (get_or xs k 0) xs) l) ∙ ap back (place_entry (get_or xs k 0) xs l) ∙ to k h

-- at the length, the number stands nowhere
pub place_nowhere : (xs : List ℕ) (x k : ℕ) → place_in x xs ≡ length xs → k < length xs → get_or xs k 0 ≡ x → ⊥
place_nowhere xs x k n h e =
    let f : place_in (get_or xs k 0) xs ≤ k = place_first xs k h in
    let g : place_in (get_or xs k 0) xs ≡ place_in x xs = ap (λ (m : ℕ). place_in m xs) e in
    omega arith

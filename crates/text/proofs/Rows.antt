-- The loop of `decimals::put_list`: numbers in a row, one after the other.
-- Assumes nothing.
use mathlib.Core.Path.{◌≡◌, ◌∙◌, sym, refl, ap}
use mathlib.Core.List.{List, [], ◌∷◌, ◌++◌, append_assoc, append-nil}
use Prim.Native.Nat.{ℕ, ◌+◌, ◌<◌, ◌≤◌, min}
use native.Mathlib.Omega.{arith}
use native.Mathlib.Numerals.{add-one}
use lib.IntN.{ℤ, pos}
use lib.ListN.{length, get_or, take}
use lib.Seq.{take-suc, take_all}
use Rattle.text.specs.Signed.{signed_decimal, spaced}
use Rattle.text.proofs.Laid.{Put, put_as, put_nothing, put_then}

-- numbers behind numbers
spaced_join : (xs ys : List ℤ) → spaced (xs ++ ys) ≡ spaced xs ++ spaced ys
unfolding spaced
spaced_join [] ys = refl
spaced_join (x ∷ xs) ys =
    ap (λ (l : List ℕ). 32 ∷ signed_decimal x ++ l) (spaced_join xs ys)
    ∙ sym (append_assoc (32 ∷ signed_decimal x) (spaced xs) (spaced ys))

-- no number is no text
spaced_none : [] ≡ spaced []
unfolding spaced
spaced_none = refl

-- one number
spaced_one : (x : ℤ) → (32 ∷ []) ++ signed_decimal x ≡ spaced (x ∷ [])
unfolding spaced
spaced_one x = sym (append-nil (32 ∷ signed_decimal x))

-- the first k numbers are laid
pub record Row (o : List ℕ) (at : ℕ) (xs : List ℤ) (o' : List ℕ) (end k : ℕ) : Type 0 where
  pub put : Put o at (spaced (take k xs)) end o'
  pub upto : k ≤ length xs

-- before the first turn none is
pub row_start : (o : List ℕ) (at : ℕ) (xs : List ℤ) {end : ℕ} → end ≡ min at (length o) → Row o at xs o end 0
row_start o at xs e =
    record { put = put_as o at [] (spaced []) spaced_none (put_nothing o at e); upto = omega arith }

module _ {o : List ℕ} {at : ℕ} {xs : List ℤ} {o' : List ℕ} {end k : ℕ} (r : Row o at xs o' end k) where
  -- a turn lays a space and a number
  pub row_on : k < length xs → {x : ℤ} → x ≡ get_or xs k (pos 0) → {o₁ o₂ : List ℕ} {end₁ end₂ : ℕ}
      → Put o' end (32 ∷ []) end₁ o₁ → Put o₁ end₁ (signed_decimal x) end₂ o₂ → Row o at xs o₂ end₂ (k + 1)
  row_on h {x} e p q =
      record {
        put =
            put_as o at (spaced (take k xs) ++ ((32 ∷ []) ++ signed_decimal x)) (spaced (take (k + 1) xs))
            (ap (λ (t : List ℕ). spaced (take k xs) ++ t)
            (spaced_one x ∙ ap (λ (y : ℤ). spaced (y ∷ [])) e)
            ∙ sym (spaced_join (take k xs) (get_or xs k (pos 0) ∷ []))
            ∙ ap spaced (sym (take-suc xs k (pos 0) h) ∙ ap (λ (n : ℕ). take n xs) (sym (add-one k))))
            (put_then o at _ _ r.put (put_then o' end _ _ p q));
        upto = omega arith;
      }

  -- after the last all are
  pub row_done : length xs ≤ k → Put o at (spaced xs) end o'
  row_done h = put_as o at _ (spaced xs) (ap spaced (take_all k xs h)) r.put

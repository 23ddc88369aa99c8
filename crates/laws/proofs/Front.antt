-- Sums over 1 to n taken from the front, and a count over a list that is such a sum.
-- Assumes nothing.
use mathlib.Core.Path.{◌≡◌, ◌∙◌, sym, ap, ap₂}
use mathlib.Core.List.{List, [], ◌∷◌}
use Prim.Native.Nat.{ℕ, zero, suc, ◌+◌, ◌-◌, ◌≤◌}
use native.Mathlib.Omega.{arith}
use native.Mathlib.Numerals.{add-one}
use lib.ListN.{length, get_or}
use Rattle.laws.specs.Total.{total}
use Rattle.laws.proofs.Total.{total_cong}

-- a sum is its first term and the rest
pub total_first : (f : ℕ → ℕ) (n : ℕ) → total f (suc n) ≡ f 1 + total (λ k. f (suc k)) n
unfolding total
total_first f zero = omega arith
total_first f (suc n) = let h = total_first f n in omega (arith, h)

-- a count that goes through a list, numbering its elements from m + 1 on, is the sum of what each counts
module _ {A : Type 0} (d : A) (one : ℕ → A → ℕ) (all : ℕ → List A → ℕ) (none : (m : ℕ) → all m [] ≡ 0)
    (more : (m : ℕ) (x : A) (xs : List A) → all m (x ∷ xs) ≡ one m x + all (suc m) xs) where
  -- a sum by recursion on a list is the sum over its places
  pub counted : (xs : List A) (m : ℕ) → all (suc m) xs ≡ total (λ n. one (m + n) (get_or xs (n - 1) d)) (length xs)
  unfolding total
  counted [] m = none (suc m)
  counted (x ∷ xs) m =
      more (suc m) x xs
      ∙ ap₂ ◌+◌ (ap (λ (k : ℕ). one k x) (sym (add-one m)))
      (counted xs (suc m)
      ∙ total_cong (λ n. one (suc m + n) (get_or xs (n - 1) d)) (λ n. one (m + suc n) (get_or (x ∷ xs) (suc n - 1) d))
      (length xs) (λ n a l. later n a))
      ∙ sym (total_first (λ n. one (m + n) (get_or (x ∷ xs) (n - 1) d)) (length xs))
    where
      later : (n : ℕ) → 1 ≤ n → one (suc m + n) (get_or xs (n - 1) d) ≡ one (m + suc n) (get_or (x ∷ xs) (suc n - 1) d)
      later n a =
          let e : suc m + n ≡ m + suc n = omega arith in
          let f : suc n - 1 ≡ suc (n - 1) = omega arith in
          ap₂ one e (sym (ap (λ (k : ℕ). get_or (x ∷ xs) k d) f))

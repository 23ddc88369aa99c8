-- From the rule at each entry back to the computed test.
-- Assumes nothing.
use mathlib.Core.Path.{subst, sym, ◌∙◌}
use mathlib.Core.Bool.{Bool, true, false}
use mathlib.Core.List.{List, [], ◌∷◌}
use Prim.Native.Nat.{ℕ, suc, ◌+◌, ◌<◌, suc-le-suc}
use native.Mathlib.Nat.{add-zero, zero-add, add-suc, suc-add, zero-lt-suc}
use lib.Dec.{T}
use lib.ListN.{length, get_or}
use Rattle.laws.specs.Table.{both, every}

-- two tests that pass pass together
pub both_of : (a b : Bool) → T a → T b → T (both a b)
both_of true b s t = t
both_of false b s t = s

module _ {A : Type 0} (d : A) (f : ℕ → A → Bool) where
  -- a test that passes at each place from i on passes over the list
  from : (xs : List A) (i : ℕ) → ((k : ℕ) → k < length xs → T (f (i + k) (get_or xs k d))) → T (every f i xs)
  from [] i p = tt
  from (x ∷ xs) i p =
      both_of (f i x) (every f (suc i) xs) (subst (λ (m : ℕ). T (f m x)) (add-zero i) (p 0 (zero-lt-suc (length xs))))
      (from xs (suc i) (λ k h. subst (λ (m : ℕ). T (f m (get_or xs k d))) (add-suc i k ∙ sym (suc-add i k))
      (p (suc k) (suc-le-suc h))))

  -- a test that passes at each entry passes over the whole table
  pub every_of : (xs : List A) → ((k : ℕ) → k < length xs → T (f k (get_or xs k d))) → T (every f 0 xs)
  every_of xs p = from xs 0 (λ k h. subst (λ (m : ℕ). T (f m (get_or xs k d))) (sym (zero-add k)) (p k h))

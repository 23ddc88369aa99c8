-- From the computed test to the rule at each entry.
-- Assumes nothing.
use mathlib.Core.Path.{◌≡◌, ◌∙◌, subst, sym}
use mathlib.Core.Bool.{Bool, true, false}
use mathlib.Core.List.{List, [], ◌∷◌}
use Prim.Native.Nat.{ℕ, zero, suc, ◌+◌, ◌<◌}
use native.Mathlib.Nat.{add-zero, zero-add, add-suc, suc-add, le_of_suc-le-suc, not-suc-le-zero}
use lib.Dec.{T}
use lib.ListN.{length, get_or}
use native.Mathlib.Decide.{ℕ_discrete}
use native.Mathlib.Omega.{arith}
use Rattle.laws.specs.Table.{both, every, all_below}

-- both tests passed: the first did
pub both_left : (a b : Bool) → T (both a b) → T a
both_left true b t = tt
both_left false b t = t

-- and the second
pub both_right : (a b : Bool) → T (both a b) → T b
both_right true b t = t
both_right false b t = absurd t

-- four tests in one, each for itself
pub each_of_four : (a b c d : Bool) → T (both a (both b (both c d))) → T a × T b × T c × T d
each_of_four a b c d t =
    let u = both_right a (both b (both c d)) t in
    let v = both_right b (both c d) u in
    (both_left a (both b (both c d)) t, both_left b (both c d) u, both_left c d v, both_right c d v)

module _ {A : Type 0} (d : A) (f : ℕ → A → Bool) where
  -- a test passed over a list from i on passed at each place
  from : (xs : List A) (i : ℕ) → T (every f i xs) → (k : ℕ) → k < length xs → T (f (i + k) (get_or xs k d))
  from [] i t k h = absurd (not-suc-le-zero h)
  from (x ∷ xs) i t zero h = subst (λ (m : ℕ). T (f m x)) (sym (add-zero i)) (both_left (f i x) (every f (suc i) xs) t)
  from (x ∷ xs) i t (suc k) h =
      subst (λ (m : ℕ). T (f m (get_or xs k d))) (suc-add i k ∙ sym (add-suc i k))
      (from xs (suc i) (both_right (f i x) (every f (suc i) xs) t) k (le_of_suc-le-suc h))

  -- a test that passes over the whole table passes at the entry k
  pub at : (xs : List A) → T (every f 0 xs) → (k : ℕ) → k < length xs → T (f k (get_or xs k d))
  at xs t k h = subst (λ (m : ℕ). T (f m (get_or xs k d))) (zero-add k) (from xs 0 t k h)

-- a test that passes at each number below n passes at k
pub below : (t : ℕ → Bool) (n : ℕ) → T (all_below n t) → (k : ℕ) → k < n → T (t k)
below t zero p k h = absurd (not-suc-le-zero h)
below t (suc n) p k h = go (below t n (both_right (t n) (all_below n t) p) k) (ℕ_discrete k n)
  where
    go : (k < n → T (t k)) → Dec (k ≡ n) → T (t k)
    go rest (yes e) = subst (λ (m : ℕ). T (t m)) (sym e) (both_left (t n) (all_below n t) p)
    go rest (no e) = rest (omega arith)

-- Sums over 1 to n: equal, ordered, changed at one place, and their parity.
-- Assumes nothing.
use mathlib.Core.Path.{◌≡◌, sym, refl, ap}
use Prim.Native.Nat.{ℕ, zero, suc, ◌+◌, ◌*◌, ◌%◌, ◌≤◌}
use native.Mathlib.Omega.{arith}
use native.Mathlib.Decide.{ℕ_discrete}
use native.Mathlib.Numerals.{add-one}
use borrow.Author.Tests.{eq-eqb, ne_eqb}
use mathlib.Core.Bool.{cond}
use lib.Dec.{eqb}
use Rattle.laws.specs.Total.{total}

-- one term more
pub total_more : (f : ℕ → ℕ) (n : ℕ) → total f (n + 1) ≡ total f n + f (n + 1)
unfolding total
total_more f n = rw add-one

-- terms that are equal have equal sums
pub total_cong : (f g : ℕ → ℕ) (n : ℕ) → ((k : ℕ) → 1 ≤ k → k ≤ n → f k ≡ g k) → total f n ≡ total g n
unfolding total
total_cong f g zero h = refl
total_cong f g (suc n) h =
    let a = total_cong f g n (λ k p q. h k p (omega arith)) in
    let b = h (suc n) (omega arith) (omega arith) in
    omega (arith, a, b)

-- each part at most c
pub total_most : (f : ℕ → ℕ) (c n : ℕ) → ((k : ℕ) → 1 ≤ k → k ≤ n → f k ≤ c) → total f n ≤ c * n
unfolding total
total_most f c zero h = omega arith
total_most f c (suc n) h =
    let a = total_most f c n (λ k p q. h k p (omega arith)) in
    let b = h (suc n) (omega arith) (omega arith) in
    omega (arith, a, b)

-- two sums that differ at the place p alone
pub total_change : (f g : ℕ → ℕ) (p n : ℕ) → 1 ≤ p → p ≤ n → ((k : ℕ) → 1 ≤ k → k ≤ n → (k ≡ p → ⊥) → f k ≡ g k)
    → total g n + f p ≡ total f n + g p
unfolding total
total_change f g p zero a b h = absurd (omega arith)
total_change f g p (suc n) a b h =
    go (ℕ_discrete p (suc n)) (λ c. total_change f g p n a c (λ k q r s. h k q (omega arith) s))
  where
    go : Dec (p ≡ suc n) → (p ≤ n → total g n + f p ≡ total f n + g p)
        → total g n + g (suc n) + f p ≡ total f n + f (suc n) + g p
    go (yes e) rest =
        let same = total_cong f g n (λ k q r. h k q (omega arith) (λ w. omega arith)) in
        let s : f p ≡ f (suc n) = ap f e in
        let t : g p ≡ g (suc n) = ap g e in
        omega (arith, same, s, t)
    go (no e) rest =
        let m = rest (omega arith) in
        let s = h (suc n) (omega arith) (omega arith) (λ w. e (sym w)) in
        omega (arith, m, s)

-- the parity of a sum whose parts have the parity of two others'
pub total_parity : (f g h : ℕ → ℕ) (n : ℕ) → ((k : ℕ) → 1 ≤ k → k ≤ n → h k % 2 ≡ (f k + g k) % 2)
    → total h n % 2 ≡ (total f n + total g n) % 2
unfolding total
total_parity f g h zero e = refl
total_parity f g h (suc n) e =
    let a = total_parity f g h n (λ k p q. e k p (omega arith)) in
    let b = e (suc n) (omega arith) (omega arith) in
    omega (arith, a, b)

-- nothing but 0
pub total_none : (f : ℕ → ℕ) (n : ℕ) → ((k : ℕ) → 1 ≤ k → k ≤ n → f k ≡ 0) → total f n ≡ 0
unfolding total
total_none f zero h = refl
total_none f (suc n) h =
    let a = total_none f n (λ k p q. h k p (omega arith)) in
    let b = h (suc n) (omega arith) (omega arith) in
    omega (arith, a, b)

-- a sum that is 0 has no other part
pub total_zero : (f : ℕ → ℕ) (n : ℕ) → total f n ≡ 0 → (k : ℕ) → 1 ≤ k → k ≤ n → f k ≡ 0
unfolding total
total_zero f zero e k a b = absurd (omega arith)
total_zero f (suc n) e k a b = go (ℕ_discrete k (suc n)) (λ c. total_zero f n (omega arith) k a c)
  where
    go : Dec (k ≡ suc n) → (k ≤ n → f k ≡ 0) → f k ≡ 0
    go (yes q) rest = let s = ap f q in omega (arith, s)
    go (no w) rest = rest (omega arith)

-- nothing but 0 away from one place
pub total_one : (f : ℕ → ℕ) (p n : ℕ) → 1 ≤ p → p ≤ n → ((k : ℕ) → 1 ≤ k → k ≤ n → (k ≡ p → ⊥) → f k ≡ 0)
    → total f n ≡ f p
total_one f p n a b h =
    let c = total_change (λ k. 0) f p n a b (λ k q r s. sym (h k q r s)) in
    let z = total_none (λ k. 0) n (λ k q r. refl) in
    omega (arith, c, z)

-- and away from two
pub total_two : (f : ℕ → ℕ) (p q n : ℕ) → 1 ≤ p → p ≤ n → 1 ≤ q → q ≤ n → (p ≡ q → ⊥)
    → ((k : ℕ) → 1 ≤ k → k ≤ n → (k ≡ p → ⊥) → (k ≡ q → ⊥) → f k ≡ 0) → total f n ≡ f p + f q
total_two f p q n a b c d apart h =
    let one = total_one g p n a b (λ k r s t. away k r s t (ℕ_discrete k q)) in
    let change = total_change g f q n c d (λ k r s t. rest k (ℕ_discrete k q) t) in
    let here : g q ≡ 0 = at_q in
    let there : g p ≡ f p = at_p in
    omega (arith, one, change, here, there)
  where
    g : ℕ → ℕ
    g k = cond (eqb k q) 0 (f k)

    at_q : g q ≡ 0
    at_q = rw (eq-eqb q q refl)

    at_p : g p ≡ f p
    at_p = rw (ne_eqb p q apart)

    away : (k : ℕ) → 1 ≤ k → k ≤ n → (k ≡ p → ⊥) → Dec (k ≡ q) → g k ≡ 0
    away k r s t (yes e) = rw (eq-eqb k q e)
    away k r s t (no e) = rw (ne_eqb k q e) (h k r s t e)

    rest : (k : ℕ) → Dec (k ≡ q) → (k ≡ q → ⊥) → g k ≡ f k
    rest k (yes e) t = absurd (t e)
    rest k (no e) t = rw (ne_eqb k q e)

-- Where each turn goes on only at a smaller measure, turns enough never run out: the function is what it does in one
-- turn.
-- Assumes nothing.
use mathlib.Core.Path.{◌≡◌}
use Prim.Native.Nat.{ℕ, zero, suc, ◌<◌}
use native.Mathlib.Omega.{arith}
use Rattle.laws.specs.Turns.{turns}

module _ {A R : Type 0} (out : R) (turn : (A → R) → A → R) (m : A → ℕ)
    (falls : (g h : A → R) (x : A) → ((y : A) → m y < m x → g y ≡ h y) → turn g x ≡ turn h x) where
  -- any two numbers of turns above the measure answer the same
  pub turns_enough : (n k : ℕ) (x : A) → m x < n → m x < k → turns out turn n x ≡ turns out turn k x
  unfolding turns
  turns_enough zero k x a b = absurd (omega arith)
  turns_enough (suc n) zero x a b = absurd (omega arith)
  turns_enough (suc n) (suc k) x a b =
      falls (turns out turn n) (turns out turn k) x (λ y l. turns_enough n k y (omega arith) (omega arith))

  -- so one turn may be taken without counting it
  pub turns_once : (n : ℕ) (x : A) → m x < n → turns out turn n x ≡ turn (turns out turn n) x
  unfolding turns
  turns_once zero x a = absurd (omega arith)
  turns_once (suc n) x a =
      falls (turns out turn n) (turns out turn (suc n)) x (λ y l. turns_enough n (suc n) y (omega arith) (omega arith))

-- A number of few is one of them.
-- Assumes nothing.
use Prim.Native.Nat.{ℕ, zero, suc, ◌≤◌}
use native.Mathlib.Omega.{arith}

-- what is so of 1, 2, 3 and 4 is so of each number from 1 to 4
pub of_four : (p : ℕ → Type 0) (n : ℕ) → 1 ≤ n → n ≤ 4 → p 1 → p 2 → p 3 → p 4 → p n
of_four p zero a b p₁ p₂ p₃ p₄ = absurd (omega arith)
of_four p (suc zero) a b p₁ p₂ p₃ p₄ = p₁
of_four p (suc (suc zero)) a b p₁ p₂ p₃ p₄ = p₂
of_four p (suc (suc (suc zero))) a b p₁ p₂ p₃ p₄ = p₃
of_four p (suc (suc (suc (suc zero)))) a b p₁ p₂ p₃ p₄ = p₄
of_four p (suc (suc (suc (suc (suc n))))) a b p₁ p₂ p₃ p₄ = absurd (omega arith)

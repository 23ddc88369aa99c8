-- A signed number: a minus and its size, or its size alone.
-- Assumes nothing.
use mathlib.Core.Path.{◌≡◌, ◌∙◌, sym, refl, ap, subst}
use mathlib.Core.Bool.{true, false, true≢false}
use mathlib.Core.List.{List, [], ◌∷◌, ◌++◌}
use Prim.Native.Nat.{ℕ}
use native.Mathlib.Omega.{arith}
use borrow.Author.Tests.{ltb-true}
use lib.IntN.{ℤ, pos, negsuc, nat_abs}
use lib.Signed.{lt_z}
use Rattle.text.specs.Decimal.{decimal}
use Rattle.text.specs.Laid.{laid, after}
use Rattle.text.specs.Signed.{signed_decimal}
use Rattle.text.proofs.Laid.{put_then}

-- a number below 0 is a minus and its size
below_zero : (x : ℤ) → lt_z x (pos 0) ≡ true → signed_decimal x ≡ (45 ∷ []) ++ decimal (nat_abs x)
below_zero (pos n) h = absurd (omega (arith, ltb-true n 0 h))
below_zero (negsuc n) h = refl

-- any other is its size
from_zero : (x : ℤ) → lt_z x (pos 0) ≡ false → signed_decimal x ≡ decimal (nat_abs x)
from_zero (pos n) h = refl
from_zero (negsuc n) h = absurd (true≢false h)

-- what a put ensures of a text, the position after it and the buffer
abbrev pub Put : List ℕ → ℕ → List ℕ → ℕ → List ℕ → Type 0
Put o at t at' o' = (at' ≡ after o at t) × (o' ≡ laid o at t)

module _ (x : ℤ) {y : ℤ} (same : y ≡ x) {size : ℕ} (e : size ≡ nat_abs y) where
  -- a minus and the size put one after the other are the number put
  pub put_below : lt_z y (pos 0) ≡ true → (o : List ℕ) (at : ℕ) {o₁ o₂ : List ℕ} {at₁ at₂ : ℕ}
      → Put o at (45 ∷ []) at₁ o₁ → Put o₁ at₁ (decimal size) at₂ o₂ → Put o at (signed_decimal x) at₂ o₂
  put_below h o at {o₂ = o₂} {at₂ = at₂} p q =
      let t = ap (λ (n : ℕ). (45 ∷ []) ++ decimal n) e ∙ sym (below_zero y h) ∙ ap signed_decimal same in
      subst (λ (s : List ℕ). Put o at s at₂ o₂) t (put_then o at (45 ∷ []) (decimal size) p q)

  -- the size put is the number put where it is not below 0
  pub put_from : lt_z y (pos 0) ≡ false → (o : List ℕ) (at : ℕ) {o₁ : List ℕ} {at₁ : ℕ}
      → Put o at (decimal size) at₁ o₁ → Put o at (signed_decimal x) at₁ o₁
  put_from h o at {o₁ = o₁} {at₁ = at₁} p =
      let t = ap decimal e ∙ sym (from_zero y h) ∙ ap signed_decimal same in
      subst (λ (s : List ℕ). Put o at s at₁ o₁) t p

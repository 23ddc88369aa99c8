-- The sum of an element: each product and the sum itself fit 64 bits, and what the code holds is what the definition
-- says.
-- Assumes nothing.
use mathlib.Core.Path.{◌≡◌, ◌∙◌, sym, ap, ap₂, subst}
use Prim.Native.Nat.{ℕ, ◌*◌, ◌≤◌, ◌^◌}
use native.Mathlib.Omega.{arith}
use native.Mathlib.Nat.{mul-le-mul}
use lib.IntN.{ℤ, pos, ◌+ℤ◌, ◌*ℤ◌, nat_abs}
use mir.Syntax.{w8, w32, w64}
use mir.Val.{SFits}
use mir.Facts.{to_z-of_z}
use Rattle.laws.proofs.Held.{held, cast_is}
use Rattle.laws.proofs.Sizes.{size_product, size_sum, fits_size, size_fits}
use Rattle.mixing.specs.Mixing.{sum_of, whole_of, element_of}

-- the size of a product is at most the product of two bounds
pub product_most : (x y : ℤ) (m n : ℕ) → nat_abs x ≤ m → nat_abs y ≤ n → nat_abs (x *ℤ y) ≤ m * n
product_most x y m n h l = subst (λ (k : ℕ). k ≤ m * n) (sym (size_product x y)) (mul-le-mul h l)

-- what the code makes of CG, the ternary element, PG and the adaptive element, from the two products
module _ {cg ternary pg adaptive : ℤ} (f : SFits w32 cg) (g : SFits w8 ternary) (h : SFits w32 pg)
    (i : SFits w32 adaptive) {code past : ℤ} (one : code ≡ held w32 cg *ℤ held w32 (held w8 ternary))
    (two : past ≡ held w32 pg *ℤ held w32 adaptive) where
  -- the products
  code_is : code ≡ cg *ℤ ternary
  code_is = one ∙ ap₂ ◌*ℤ◌ (to_z-of_z f) (cast_is w32 g tt)

  past_is : past ≡ pg *ℤ adaptive
  past_is = two ∙ ap₂ ◌*ℤ◌ (to_z-of_z h) (to_z-of_z i)

  -- how large they can be
  code_size : nat_abs (cg *ℤ ternary) ≤ 2 ^ 31 * 2 ^ 7
  code_size = product_most cg ternary (2 ^ 31) (2 ^ 7) (size_fits w32 f) (size_fits w8 g)

  past_size : nat_abs (pg *ℤ adaptive) ≤ 2 ^ 31 * 2 ^ 31
  past_size = product_most pg adaptive (2 ^ 31) (2 ^ 31) (size_fits w32 h) (size_fits w32 i)

  -- the code's product as it is held
  code_held : held w64 code ≡ cg *ℤ ternary
  code_held =
      ap (held w64) code_is ∙ to_z-of_z (fits_size w64 (omega (arith, code_size)))

  -- in thousandths
  scaled_size : nat_abs (pos 1000 *ℤ (cg *ℤ ternary)) ≤ 1000 * (2 ^ 31 * 2 ^ 7)
  scaled_size = product_most (pos 1000) (cg *ℤ ternary) 1000 (2 ^ 31 * 2 ^ 7) (omega arith) code_size

  pub scaled_fits : SFits w64 (pos 1000 *ℤ held w64 code)
  scaled_fits =
      subst (λ (z : ℤ). SFits w64 (pos 1000 *ℤ z)) (sym code_held) (fits_size w64 (omega (arith, scaled_size)))

  scaled_held : held w64 (pos 1000 *ℤ held w64 code) ≡ pos 1000 *ℤ (cg *ℤ ternary)
  scaled_held = to_z-of_z scaled_fits ∙ ap (λ (z : ℤ). pos 1000 *ℤ z) code_held

  past_held : held w64 past ≡ pg *ℤ adaptive
  past_held = ap (held w64) past_is ∙ to_z-of_z (fits_size w64 (omega (arith, past_size)))

  -- the two together
  parts : held w64 (pos 1000 *ℤ held w64 code) +ℤ held w64 past ≡ pos 1000 *ℤ (cg *ℤ ternary) +ℤ pg *ℤ adaptive
  parts = ap₂ ◌+ℤ◌ scaled_held past_held

  pub sum_fits : SFits w64 (held w64 (pos 1000 *ℤ held w64 code) +ℤ held w64 past)
  sum_fits =
      subst (SFits w64) (sym parts)
      (fits_size w64
      (omega (arith, scaled_size, past_size, size_sum (pos 1000 *ℤ (cg *ℤ ternary)) (pg *ℤ adaptive))))

  pub sum_is : held w64 (held w64 (pos 1000 *ℤ held w64 code) +ℤ held w64 past) ≡ sum_of cg ternary pg adaptive
  unfolding sum_of
  sum_is = to_z-of_z sum_fits ∙ parts

-- the whole number of the sum is the element
pub element_is : {cg ternary pg adaptive : ℤ} → SFits w32 cg → SFits w8 ternary → SFits w32 pg → SFits w32 adaptive
    → {sum r : ℤ} → SFits w64 sum → sum ≡ sum_of (held w32 cg) (held w8 ternary) (held w32 pg) (held w32 adaptive)
    → SFits w32 r → r ≡ whole_of (held w64 sum) → held w32 r ≡ element_of cg ternary pg adaptive
unfolding element_of
element_is {cg} {ternary} {pg} {adaptive} f g h i j one k two =
    to_z-of_z k ∙ two ∙ ap whole_of (to_z-of_z j ∙ one)
    ∙ ap whole_of (ap₂ (λ (x y : ℤ). sum_of x y (held w32 pg) (held w32 adaptive)) (to_z-of_z f) (to_z-of_z g)
    ∙ ap₂ (sum_of cg ternary) (to_z-of_z h) (to_z-of_z i))

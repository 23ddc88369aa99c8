-- What is promised of every element: the rounding in the request's words, the ends, and that nothing overflows.
-- Assumes nothing.
use mathlib.Core.Path.{◌≡◌, ◌∙◌, refl, ap, subst}
use mathlib.Core.Bool.{Bool, true, false, cond}
use Prim.Native.Nat.{ℕ, zero, suc, ◌+◌, ◌-◌, ◌*◌, ◌/◌, ◌<◌, ◌≤◌, ◌^◌, min}
use native.Mathlib.Omega.{arith}
use native.Mathlib.Decide.{ℕ_discrete}
use borrow.Author.Tests.{ltb-true, ltb-false}
use lib.Dec.{ltb}
use lib.IntN.{ℤ, pos, negsuc, neg_ℤ, ◌+ℤ◌, ◌-ℤ◌, ◌*ℤ◌, nat_abs, +ℤ_idr, +ℤ_invr, *ℤ-zero}
use Rattle.laws.proofs.Sizes.{size_turned, size_sum}
use Rattle.mixing.specs.Mixing.{sum_of, signed_as, rounded_by, held_of, element_of}
use Rattle.mixing.specs.Promised.{distance, Nearest, RoundedOnce, HeldAtTheEnds, ElementIs, CodeAlone}
use Rattle.mixing.specs.Promised.{NothingOverflows}
use Rattle.mixing.proofs.Sums.{product_most}

-- how far two sizes are apart
abbrev gap : ℕ → ℕ → ℕ
gap a b = (a - b) + (b - a)

-- a difference of sizes, by the test that decides its sign
by_test : (a b : ℕ) (t : Bool) → ltb a (suc b) ≡ t
    → nat_abs (cond t (negsuc (suc b - suc a)) (pos (a - suc b))) ≡ gap a (suc b)
by_test a b true e = omega (arith, ltb-true a (suc b) e)
by_test a b false e = omega (arith, ltb-false a (suc b) e)

pub up_and_up : (a b : ℕ) → nat_abs (pos a -ℤ pos b) ≡ gap a b
up_and_up a zero = omega arith
up_and_up a (suc b) = by_test a b (ltb a (suc b)) refl

-- turned round, they are as far apart
down_and_up : (a b : ℕ) → nat_abs (neg_ℤ (pos a) +ℤ pos b) ≡ gap a b
down_and_up zero b = omega arith
down_and_up (suc a) b = by_test b a (ltb b (suc a)) refl ∙ omega arith

-- below zero both, a sum
down_and_down : (a b : ℕ) → nat_abs (neg_ℤ (pos a) -ℤ pos b) ≡ a + b
down_and_down zero zero = refl
down_and_down zero (suc b) = by_test 0 b (ltb 0 (suc b)) refl ∙ omega arith
down_and_down (suc a) zero = by_test 0 a (ltb 0 (suc a)) refl ∙ omega arith
down_and_down (suc a) (suc b) = omega arith

-- ---- the rounding

-- what is nearest to a sum that is not below zero
up_alone : (n : ℕ) (whole : ℤ) → Nearest (pos n) whole → pos ((n + 500) / 1000) ≡ whole
up_alone n (pos q) p = ap pos (go (ℕ_discrete (2 * gap (1000 * q) n) 1000))
  where
    near : 2 * gap (1000 * q) n ≤ 1000
    near = subst (λ (d : ℕ). 2 * d ≤ 1000) (up_and_up (1000 * q) n) p.near

    go : Dec (2 * gap (1000 * q) n ≡ 1000) → (n + 500) / 1000 ≡ q
    go (yes e) = omega (arith, near, p.away (ap (λ (d : ℕ). 2 * d) (up_and_up (1000 * q) n) ∙ e))
    go (no e) = omega (arith, near, e)
up_alone n (negsuc q) p =
    absurd (omega (arith, subst (λ (d : ℕ). 2 * d ≤ 1000) (down_and_down (1000 * suc q) n) p.near))

-- and to one below zero
down_alone : (n : ℕ) (whole : ℤ) → Nearest (negsuc n) whole → neg_ℤ (pos ((suc n + 500) / 1000)) ≡ whole
down_alone n (pos q) p = ap (λ (k : ℕ). neg_ℤ (pos k)) none ∙ ap pos zeroth
  where
    near : 2 * (1000 * q + suc n) ≤ 1000
    near = p.near

    short : 2 * (1000 * q + suc n) ≡ 1000 → ⊥
    short e = omega (arith, p.away e, near)

    none : (suc n + 500) / 1000 ≡ 0
    none = omega (arith, near, short)

    zeroth : 0 ≡ q
    zeroth = omega (arith, near)
down_alone n (negsuc q) p = ap (λ (k : ℕ). neg_ℤ (pos k)) (go (ℕ_discrete (2 * gap (1000 * suc q) (suc n)) 1000))
  where
    near : 2 * gap (1000 * suc q) (suc n) ≤ 1000
    near = subst (λ (d : ℕ). 2 * d ≤ 1000) (down_and_up (1000 * suc q) (suc n)) p.near

    go : Dec (2 * gap (1000 * suc q) (suc n) ≡ 1000) → (suc n + 500) / 1000 ≡ suc q
    go (yes e) = omega (arith, near, p.away (ap (λ (d : ℕ). 2 * d) (down_and_up (1000 * suc q) (suc n)) ∙ e))
    go (no e) = omega (arith, near, e)

-- so only the rounding is
alone : (sum whole : ℤ) → Nearest sum whole → rounded_by 1000 sum ≡ whole
unfolding rounded_by
alone (pos n) whole p = up_alone n whole p
alone (negsuc n) whole p = down_alone n whole p

-- and the rounding is, of a sum that is not below zero and of one that is
up_nearest : (n q : ℕ) → q ≡ (n + 500) / 1000 → Nearest (pos n) (pos q)
up_nearest n q e =
    let d : distance (pos q) (pos n) ≡ gap (1000 * q) n = up_and_up (1000 * q) n in
    record { near = omega (arith, d, e); away = λ h. omega (arith, d, e, h) }

down_nearest : (n q : ℕ) → q ≡ (suc n + 500) / 1000 → Nearest (negsuc n) (neg_ℤ (pos q))
down_nearest n zero e = record { near = omega (arith, e); away = λ h. omega (arith, e, h) }
down_nearest n (suc q) e =
    let d : distance (negsuc q) (negsuc n) ≡ gap (1000 * suc q) (suc n) = down_and_up (1000 * suc q) (suc n) in
    record { near = omega (arith, d, e); away = λ h. omega (arith, d, e, h) }

pub nearest : (sum : ℤ) → Nearest sum (rounded_by 1000 sum)
unfolding rounded_by
nearest (pos n) = up_nearest n _ refl
nearest (negsuc n) = down_nearest n _ refl

pub rounded_once : RoundedOnce
unfolding RoundedOnce
rounded_once sum whole = (λ e. subst (Nearest sum) e (nearest sum), alone sum whole)

-- ---- the ends

held_within : (z : ℤ) → nat_abs (held_of z) ≤ 1000000
unfolding held_of
held_within (pos n) = omega arith
held_within (negsuc n) = omega (arith, size_turned (min (suc n) 1000000))

held_inside : (z : ℤ) → nat_abs z ≤ 1000000 → held_of z ≡ z
unfolding held_of
held_inside (pos n) h = ap pos (omega arith)
held_inside (negsuc n) h =
    let e : min (suc n) 1000000 ≡ suc n = omega arith in ap (λ (k : ℕ). neg_ℤ (pos k)) e

held_outside : (z : ℤ) → 1000000 < nat_abs z → held_of z ≡ signed_as z 1000000
unfolding held_of
held_outside z h = ap (signed_as z) (omega arith)

pub held_at_the_ends : HeldAtTheEnds
unfolding HeldAtTheEnds
held_at_the_ends z = (held_within z, held_inside z, held_outside z)

-- ---- an element

pub element_is : ElementIs
unfolding ElementIs element_of
element_is cg ternary pg adaptive whole p = ap held_of (alone (sum_of cg ternary pg adaptive) whole p)

-- an element is within the ends, whatever it is made of
pub element_within : (cg ternary pg adaptive : ℤ) → nat_abs (element_of cg ternary pg adaptive) ≤ 1000000
unfolding element_of
element_within cg ternary pg adaptive = held_within (rounded_by 1000 (sum_of cg ternary pg adaptive))

-- a whole number of thousands is rounded to itself
itself : (x : ℤ) → Nearest (pos 1000 *ℤ x) x
itself x =
    let d : distance x (pos 1000 *ℤ x) ≡ 0 = ap nat_abs (+ℤ_invr (pos 1000 *ℤ x)) in
    record { near = omega (arith, d); away = λ h. absurd (omega (arith, d, h)) }

pub code_alone : CodeAlone
unfolding CodeAlone element_of sum_of
code_alone cg ternary pg =
    ap held_of
    (ap (rounded_by 1000)
    (ap (λ (z : ℤ). pos 1000 *ℤ (cg *ℤ ternary) +ℤ z) (*ℤ-zero pg) ∙ +ℤ_idr (pos 1000 *ℤ (cg *ℤ ternary)))
    ∙ alone (pos 1000 *ℤ (cg *ℤ ternary)) (cg *ℤ ternary) (itself (cg *ℤ ternary)))

pub nothing_overflows : NothingOverflows
unfolding NothingOverflows sum_of
nothing_overflows cg ternary pg adaptive f g h i =
    let code = product_most cg ternary (2 ^ 31) (2 ^ 7) f g in
    let scaled = product_most (pos 1000) (cg *ℤ ternary) 1000 (2 ^ 31 * 2 ^ 7) (omega arith) code in
    let past = product_most pg adaptive (2 ^ 31) (2 ^ 31) h i in (
      omega (arith, code),
      omega (arith, scaled),
      omega (arith, past),
      omega (arith, scaled, past, size_sum (pos 1000 *ℤ (cg *ℤ ternary)) (pg *ℤ adaptive)),
    )

-- A sum of thousandths to a whole number: of a number below zero its size is turned round, rounded, held and turned
-- back; of any other it is the number itself.
-- Assumes nothing.
use mathlib.Core.Path.{◌≡◌, ◌∙◌, sym, refl, ap, subst}
use mathlib.Core.Bool.{true, false, true≢false}
use Prim.Native.Nat.{ℕ, zero, suc, ◌+◌, ◌<◌, ◌≤◌, ◌^◌}
use native.Mathlib.Omega.{arith}
use borrow.Author.Tests.{le-ltb}
use lib.Dec.{T}
use lib.IntN.{ℤ, pos, negsuc, neg_ℤ, ◌-ℤ◌, nat_abs}
use lib.Signed.{non_neg, lt_z}
use mir.Syntax.{w32, w64}
use mir.Val.{Fits, SFits, to_z}
use mir.Facts.{to_z-of_z, to_z_pos}
use Rattle.laws.proofs.Held.{held}
use Rattle.laws.proofs.Sizes.{size_turned, from_zero, fits_size}
use Rattle.mixing.specs.Mixing.{signed_as, rounded_size, rounded_by, held_size, held_of, whole_of, whole_size}

-- a size with a sign is held by its size
held_signed : (z : ℤ) (n : ℕ) → held_of (signed_as z n) ≡ signed_as z (held_size n)
unfolding held_of
held_signed (pos m) n = refl
held_signed (negsuc m) zero = refl
held_signed (negsuc m) (suc n) = refl

-- so a sum becomes the rounded and held size with its sign
pub whole_signed : (z : ℤ) → whole_of z ≡ signed_as z (whole_size (nat_abs z))
unfolding rounded_by
whole_signed z = held_signed z (rounded_size 1000 (nat_abs z))

-- no such size is more than 1,000,000
size_within : (n : ℕ) → whole_size n ≤ 1000000
size_within n = omega arith

-- -1 less a number below zero
turned_round : (n : ℕ) → negsuc 0 -ℤ negsuc n ≡ pos n
turned_round n = rw (le-ltb (suc n) 1 (omega arith)) (ap pos (omega arith))

-- a sum below zero, as the code turns it round
pub record Below (s : ℤ) : Type 0 where
  pub size : ℕ
  pub is : s ≡ negsuc size
  pub small : size < 2 ^ 63
  pub fits : SFits w64 (negsuc 0 -ℤ held w64 s)
  pub turned : held w64 (negsuc 0 -ℤ held w64 s) ≡ pos size

pub below : {s : ℤ} → SFits w64 s → lt_z (held w64 s) (pos 0) ≡ true → Below s
below {s = pos n} f t =
    absurd (true≢false (sym t ∙ ap (λ (z : ℤ). lt_z z (pos 0)) (to_z-of_z f) ∙ le-ltb n 0 (omega arith)))
below {s = negsuc n} f t =
    let e : negsuc 0 -ℤ held w64 (negsuc n) ≡ pos n = ap (λ (z : ℤ). negsuc 0 -ℤ z) (to_z-of_z f) ∙ turned_round n in
    let g : SFits w64 (pos n) = record { sfits = f.sfits } in
    let h : SFits w64 (negsuc 0 -ℤ held w64 (negsuc n)) = subst (SFits w64) (sym e) g in
    record { size = n; is = refl; small = f.sfits; fits = h; turned = to_z-of_z h ∙ e }

module _ {s : ℤ} (b : Below s) where
  -- it goes into 64 bits without a sign, and one more too
  pub below_goes : T (non_neg (held w64 (negsuc 0 -ℤ held w64 s)))
      × Fits w64 (nat_abs (held w64 (negsuc 0 -ℤ held w64 s)))
  below_goes = rw b.turned (tt, record { fits = omega (arith, b.small) })

  pub below_most : nat_abs (held w64 (negsuc 0 -ℤ held w64 s)) + 1 ≤ 2 ^ 63
  below_most = rw b.turned (omega (arith, b.small))

  module _ {r : ℕ} (e : r ≡ whole_size (nat_abs (held w64 (negsuc 0 -ℤ held w64 s)) + 1)) where
    -- what comes of it is the size's
    r_is : r ≡ whole_size (nat_abs s)
    r_is =
        let same : nat_abs (held w64 (negsuc 0 -ℤ held w64 s)) + 1 ≡ nat_abs s =
        ap (λ (z : ℤ). nat_abs z + 1) b.turned ∙ sym (ap nat_abs b.is ∙ omega arith) in
        e ∙ ap whole_size same

    back : pos 0 -ℤ to_z w32 r ≡ neg_ℤ (pos r)
    back =
        ap (λ (z : ℤ). pos 0 -ℤ z) (to_z_pos w32 {n = r} (omega (arith, r_is, size_within (nat_abs s)))) ∙ from_zero r

    -- turned back it fits
    pub back_fits : SFits w32 (pos 0 -ℤ to_z w32 r)
    back_fits =
        subst (SFits w32) (sym back)
        (fits_size w32 (omega (arith, size_turned r, r_is, size_within (nat_abs s))))

    -- and is the whole number
    pub below_whole : held w32 (pos 0 -ℤ to_z w32 r) ≡ whole_of s
    below_whole =
        to_z-of_z back_fits ∙ back ∙ ap (λ (n : ℕ). neg_ℤ (pos n)) r_is
        ∙ sym (whole_signed s ∙ ap (λ (z : ℤ). signed_as z (whole_size (nat_abs s))) b.is)

-- a sum that is not below zero
pub record NotBelow (s : ℤ) : Type 0 where
  pub size : ℕ
  pub is : s ≡ pos size
  pub small : size < 2 ^ 63
  pub held_is : held w64 s ≡ pos size

pub not_below : {s : ℤ} → SFits w64 s → lt_z (held w64 s) (pos 0) ≡ false → NotBelow s
not_below {s = pos n} f t = record { size = n; is = refl; small = f.sfits; held_is = to_z-of_z f }
not_below {s = negsuc n} f t = absurd (true≢false (ap (λ (z : ℤ). lt_z z (pos 0)) (sym (to_z-of_z f)) ∙ t))

module _ {s : ℤ} (b : NotBelow s) where
  -- it goes into 64 bits without a sign
  pub up_goes : T (non_neg (held w64 s)) × Fits w64 (nat_abs (held w64 s))
  up_goes = rw b.held_is (tt, record { fits = omega (arith, b.small) })

  pub up_most : nat_abs (held w64 s) ≤ 2 ^ 63
  up_most = rw b.held_is (omega (arith, b.small))

  -- and its size, rounded and held, is the whole number
  pub up_whole : {r : ℕ} → r ≡ whole_size (nat_abs (held w64 s)) → to_z w32 r ≡ whole_of s
  up_whole {r} e =
      let same : nat_abs (held w64 s) ≡ nat_abs s = ap nat_abs (b.held_is ∙ sym b.is) in
      let r_is : r ≡ whole_size (nat_abs s) = e ∙ ap whole_size same in
      to_z_pos w32 {n = r} (omega (arith, r_is, size_within (nat_abs s))) ∙ ap pos r_is
      ∙ sym (whole_signed s ∙ ap (λ (z : ℤ). signed_as z (whole_size (nat_abs s))) b.is)

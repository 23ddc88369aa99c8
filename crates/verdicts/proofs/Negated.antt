-- A small number turned round: it has room in 32 bits, and is minus that number.
-- Assumes nothing.
use mathlib.Core.Path.{◌≡◌, refl, sym, ap, subst, ◌∙◌}
use Prim.Native.Nat.{ℕ, ◌<◌, ◌≤◌, min}
use native.Mathlib.Omega.{arith}
use native.Mathlib.Decide.{dec_lt}
use borrow.Author.Tests.{le-ltb, lt-ltb}
use lib.IntN.{ℤ, pos, ◌-ℤ◌}
use mir.Syntax.{w32}
use mir.Val.{SFits, to_z, of_z}
use mir.Facts.{to_z_pos, to_z-of_z}
use Rattle.laws.proofs.Sizes.{size_turned, from_zero, fits_size}
use Rattle.blocks.specs.Refusals.{refusal_of}
use Rattle.blocks.specs.declared.Cause.{Cause}
use Rattle.blocks.specs.declared.Cause.TheVariants.{TooLong, HeaderCut, PastEnd, WrongSize, UnknownKind}
use Rattle.blocks.specs.declared.Cause.TheVariants.{OutOfTurn, EndMissing, WrongCount, Extra}
use Rattle.verdicts.specs.Verdicts.{refused, minus_of}

module _ (n : ℕ) (small : n ≤ 15) where
  back : pos 0 -ℤ to_z w32 n ≡ refused n
  back = ap (λ (z : ℤ). pos 0 -ℤ z) (to_z_pos w32 {n = n} (omega (arith, small))) ∙ from_zero n

  pub minus_fits : SFits w32 (pos 0 -ℤ to_z w32 n)
  minus_fits = subst (SFits w32) (sym back) (fits_size w32 (omega (arith, size_turned n, small)))

  -- a number that is small is just turned round
  pub minus_small : minus_of n ≡ refused n
  minus_small = rw (le-ltb 15 n small) refl

  pub minus_is : to_z w32 (of_z w32 (pos 0 -ℤ to_z w32 n)) ≡ minus_of n
  minus_is = to_z-of_z minus_fits ∙ back ∙ sym minus_small

-- one that is not is held
pub minus_held : (n : ℕ) {m : ℕ} → m ≡ min n 15 → minus_of m ≡ minus_of n
minus_held n {m} e = go (dec_lt 15 n)
  where
    go : Dec (15 < n) → minus_of m ≡ minus_of n
    go (yes large) = let f : m ≡ 15 = omega (arith, e) in ap minus_of f ∙ rw (lt-ltb 15 n large) refl
    go (no small) = let f : m ≡ n = omega (arith, e) in ap minus_of f

-- no refusal of a recording has a number over 15
pub small_number : (cause : Cause) → refusal_of cause ≤ 15
small_number TooLong = omega arith
small_number (HeaderCut p) = omega arith
small_number (PastEnd p) = omega arith
small_number (WrongSize p size) = omega arith
small_number (UnknownKind p) = omega arith
small_number (OutOfTurn p) = omega arith
small_number (EndMissing p) = omega arith
small_number (WrongCount p) = omega arith
small_number (Extra p) = omega arith

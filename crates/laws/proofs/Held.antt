-- A signed number in a local of some width: what is read back is what was put in, and a wider local has room for it.
-- Assumes nothing.
use mathlib.Core.Path.{◌≡◌, ◌∙◌, sym, subst}
use lib.Dec.{T, leb}
use lib.IntN.{ℤ}
use mir.Syntax.{Width}
use mir.Val.{SFits, to_z, of_z, hbits}
use mir.Facts.{to_z-of_z, sfits_widen}

-- what a local of width w reads after z was put there
abbrev pub held : Width → ℤ → ℤ
held w z = to_z w (of_z w z)

module _ {w : Width} (w' : Width) {z : ℤ} (f : SFits w z) (t : T (leb (hbits w) (hbits w'))) where
  -- a cast to a type at least as wide loses nothing
  pub cast_fits : SFits w' (held w z)
  cast_fits = subst (SFits w') (sym (to_z-of_z f)) (sfits_widen t f)

  -- and is the same number there
  pub cast_is : held w' (held w z) ≡ z
  cast_is = to_z-of_z cast_fits ∙ to_z-of_z f

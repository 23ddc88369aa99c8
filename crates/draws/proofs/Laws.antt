-- What the definitions of this crate come to, for callers: the wrapped sum, and the positions.
-- Assumes nothing.
use Rattle.std.proofs.Common.{◌≡◌, ℕ, ◌%◌, ◌≤◌, Bool, true, false, cond, ℤ, pos, negsuc, ◌+ℤ◌, ◌-ℤ◌, ◌*ℤ◌, sym, refl, ap, ◌∙◌, arith, to_z-of_z, w16, SFits, to_z}
use native.Mathlib.Decide.{ℕ_discrete}
use lib.IntN.{+ℤ_idr}
use lib.Signed.{lt_z}
use Rattle.draws.specs.Draw.{wrapped, position_of}
use Rattle.draws.proofs.Sixteen.{remainder, remainder_bits, remainder_multiple, remainder_read, sum_below}
use Rattle.draws.proofs.Drawing.{fifth, by_remainder}

-- a number that is another one and a multiple of 65,536
abbrev pub Congruent : ℤ → ℤ → Type 0
Congruent x z = (m : ℤ) × (x ≡ z +ℤ m *ℤ pos 65536)

-- a wrapped number is the number itself and such a multiple
pub wrapped_congruent : (z : ℤ) → Congruent (wrapped z) z
unfolding wrapped
wrapped_congruent z = go (lt_z z (negsuc 32767)) (lt_z (pos 32767) z)
  where
    go : (below above : Bool) → Congruent (cond below (z +ℤ pos 65536) (cond above (z -ℤ pos 65536) z)) z
    go true above = (pos 1, refl)
    go false true = (negsuc 0, refl)
    go false false = (pos 0, sym (+ℤ_idr z))

-- of a sum of two, no other number of sixteen bits is
pub sum_only : (a b x : ℤ) → SFits w16 a → SFits w16 b → SFits w16 x → Congruent x (a +ℤ b) → x ≡ wrapped (a +ℤ b)
sum_only a b x f g h (m, e) =
    sym (to_z-of_z h) ∙ ap (to_z w16)
    (sym (remainder_bits x h) ∙ ap remainder e ∙ remainder_multiple (a +ℤ b) m)
    ∙ remainder_read (a +ℤ b) (sum_below a b f g)

-- a number counts as a position of 1 to 5
pub position_range : (p : ℕ) → (1 ≤ position_of p) × (position_of p ≤ 5)
position_range p = go (ℕ_discrete (p % 5) 0)
  where
    go : Dec (p % 5 ≡ 0) → (1 ≤ position_of p) × (position_of p ≤ 5)
    go (yes e) = let q = fifth p e in (omega (arith, q.0), omega (arith, q.0))
    go (no e) = let q = by_remainder p e in (omega (arith, q.0), omega (arith, q.0))

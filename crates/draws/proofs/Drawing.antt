-- The steps of `draw`: a position and the one before it, and the generator after a draw.
-- Assumes nothing.
use Rattle.std.proofs.Common.{◌≡◌, ℕ, ◌+◌, ◌-◌, ◌%◌, ◌<◌, ◌≤◌, set, get_or, pos, refl, arith, w16, SFits, to_z, of_z, eq-eqb, ne_eqb, le-leb}
use borrow.Author.Tests.{lt-leb}
use Rattle.draws.specs.declared.Generator.{Generator}
use Rattle.draws.specs.declared.Draw.{Draw}
use Rattle.draws.specs.Draw.{position_of, moved_of, draw_of}
use Rattle.draws.proofs.Sixteen.{bits_sum}

-- the position that a number counts as, by its remainder on five
pub fifth : (p : ℕ) → p % 5 ≡ 0 → (5 ≡ position_of p) × ((1 ≤ 5) × (5 ≤ 5))
fifth p e = (rw (eq-eqb (p % 5) 0 e) refl, (omega arith, omega arith))

-- any other number counts as its remainder
pub by_remainder : (p : ℕ) → (p % 5 ≡ 0 → ⊥) → (p % 5 ≡ position_of p) × ((1 ≤ p % 5) × (p % 5 ≤ 5))
by_remainder p n = (rw (ne_eqb (p % 5) 0 n) refl, (omega arith, omega arith))

-- the position before
pub round : (k : ℕ) → k ≤ 1 → 5 ≡ moved_of k
round k h = rw (le-leb (k - 1) 0 (omega arith)) refl

-- any other position moves one down
pub down : (k : ℕ) → 1 < k → k - 1 ≡ moved_of k
down k h = rw (lt-leb (k - 1) 0 (omega arith)) refl

-- the draw that is returned: the sum of the bits, read as signed, kept at the first position
pub drawn : (g : Generator) {k j m n f s : ℕ} → k ≡ position_of g.first → j ≡ position_of g.second → m ≡ k - 1 → n ≡ j - 1
    → SFits w16 (get_or g.kept m (pos 0)) → SFits w16 (get_or g.kept n (pos 0)) → f ≡ moved_of k → s ≡ moved_of j
    → let v = to_z w16 ((of_z w16 (get_or g.kept m (pos 0)) + of_z w16 (get_or g.kept n (pos 0))) % 65536) in
    ◌≡◌ {A = Draw} (record { value = v; generator = record { kept = set g.kept m v; first = f; second = s } }) (draw_of g)
unfolding draw_of
drawn g p q a b x y e h =
    rw (bits_sum _ _ x y, a, b, e, h, p, q) refl

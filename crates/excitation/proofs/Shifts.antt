-- The register after: its last 87 elements, and then the sixty new ones.
-- Assumes nothing.
use mathlib.Core.Path.{◌≡◌, ◌∙◌, sym, ap, ap₂}
use mathlib.Core.List.{List, [], ◌++◌}
use Prim.Native.Nat.{ℕ, ◌+◌}
use native.Mathlib.Omega.{arith}
use borrow.Rule.Slice.PartMut.{put_mid, mid_of}
use lib.IntN.{ℤ, pos}
use lib.ListN.{length, get_or, take, drop, length-append, length-drop}
use lib.Seq.{get_or-drop}
use Rattle.std.proofs.lemmas.List.{take_all, drop_all, take-append-le, drop-append-le, append-nil}
use Rattle.excitation.specs.Register.{moved_by}

-- the register after has as many elements as before
pub length_moved : (before new : List ℤ) → length before ≡ 147 → length new ≡ 60 → length (moved_by before new) ≡ 147
unfolding moved_by
length_moved before new old long =
    omega (arith, length-drop 60 (before ++ new), length-append before new, old, long)

-- element i of it is element i + 60 of old and new
pub moved_element : (before new : List ℤ) (i : ℕ)
    → get_or (moved_by before new) i (pos 0) ≡ get_or (before ++ new) (i + 60) (pos 0)
unfolding moved_by
moved_element before new i =
    let e : 60 + i ≡ i + 60 = omega arith in
    get_or-drop 60 (before ++ new) i (pos 0) ∙ ap (λ (k : ℕ). get_or (before ++ new) k (pos 0)) e

-- the last 87 elements of the register and the new ones, laid one after the other into a list of 147
pub moved_is : (before new : List ℤ) {old : List ℤ} (z : List ℤ) → length before ≡ 147 → length new ≡ 60 → length z ≡ 60
    → old ≡ mid_of 60 87 before → put_mid 87 60 (old ++ z) new ≡ moved_by before new
unfolding moved_by
moved_is before new {old} z b n k e =
    let last : old ≡ drop 60 before = e ∙ take_all 87 (drop 60 before) (omega (arith, length-drop 60 before, b)) in
    let long : length old ≡ 87 = ap length last ∙ omega (arith, length-drop 60 before, b) in
    let front : take 87 (old ++ z) ≡ old =
    take-append-le 87 old z (omega arith) ∙ take_all 87 old (omega arith) in
    let back : drop 60 (drop 87 (old ++ z)) ≡ [] =
    drop_all 60 (drop 87 (old ++ z)) (omega (arith, length-drop 87 (old ++ z), length-append old z)) in
    ap₂ (λ (x y : List ℤ). x ++ (new ++ y)) (front ∙ last) back ∙ ap (λ (y : List ℤ). drop 60 before ++ y) (append-nil new)
    ∙ sym (drop-append-le 60 before new (omega arith))

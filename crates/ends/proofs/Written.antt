-- The bytes of a number, as they are written.
-- Assumes nothing.
use mathlib.Core.Path.{◌≡◌, ◌∙◌, ap, ap₂}
use mathlib.Core.List.{List, [], ◌∷◌}
use Prim.Native.Nat.{ℕ, ◌/◌, ◌%◌, ◌<◌, ◌^◌}
use native.Mathlib.Omega.{arith}
use lib.ListN.{get_or}
use Rattle.std.specs.Int.{w32, to_le_bytes}
use Rattle.blocks.specs.Made.{word_bytes}

pub word_written : (n : ℕ) {x : List ℕ} → n < 2 ^ 32 → x ≡ to_le_bytes w32 n
    → get_or x 0 0 ∷ get_or x 1 0 ∷ get_or x 2 0 ∷ get_or x 3 0 ∷ [] ≡ word_bytes n
word_written n l e =
    let third : n / 65536 % 256 ≡ n / 256 / 256 % 256 = omega arith in
    let last : n / 16777216 % 256 ≡ n / 256 / 256 / 256 = omega arith in
    ap (λ (x : List ℕ). get_or x 0 0 ∷ get_or x 1 0 ∷ get_or x 2 0 ∷ get_or x 3 0 ∷ []) e
    ∙ ap₂ (λ (x y : ℕ). n % 256 ∷ n / 256 % 256 ∷ x ∷ y ∷ []) third last

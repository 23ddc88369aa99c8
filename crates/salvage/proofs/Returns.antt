-- The returns of `answer`, and what `changes_by` makes.
-- Assumes nothing.
use mathlib.Core.Path.{◌≡◌, refl, sym, ap}
use mathlib.Core.Bool.{Bool, true, false}
use Prim.Native.Nat.{ℕ, ◌+◌, ◌-◌}
use native.Mathlib.Omega.{arith}
use Rattle.salvage.specs.Steps.{changes_by, answer_by}
use Rattle.salvage.specs.declared.Changes.{Changes}
use Rattle.salvage.specs.declared.Salvaged.TheVariants.{Sound, Mended}

-- a sound recording
pub answer_sound : (long frames end : ℕ) (sound : Bool) → sound ≡ true → Sound ≡ answer_by long frames end sound
answer_sound long frames end sound t = ap (answer_by long frames end) (sym t)

-- a mended one
pub answer_mended : (long frames end : ℕ) (sound : Bool) {c : Changes} → sound ≡ false → c ≡ changes_by long frames end
    → Mended c ≡ answer_by long frames end sound
answer_mended long frames end true t e = absurd (let z : ◌≡◌ {A = ℕ} 0 1 = cc in omega arith)
answer_mended long frames end false t e = ap Mended e

-- the changes, number by number
pub changes_told : (long frames end : ℕ) {dropped from at after : ℕ} → dropped ≡ long - end → from ≡ end → at ≡ end
    → after ≡ end + 10
    → record { dropped = dropped; from = from; frames = frames; end = at; long = after } ≡ changes_by long frames end
changes_told long frames end d f e a = rw (d, f, e, a) refl

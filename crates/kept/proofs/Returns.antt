-- The returns of the steps that say what is to be written.
-- Assumes nothing.
use mathlib.Core.Path.{◌≡◌, ◌∙◌, sym, refl, ap}
use mathlib.Core.Bool.{Bool, true, false, not}
use mathlib.Core.List.{List, [], ◌∷◌}
use Prim.Native.Nat.{ℕ, zero, suc, ◌+◌, ◌-◌, ◌*◌, ◌/◌, ◌<◌, ◌≤◌}
use native.Mathlib.Omega.{arith}
use borrow.Author.Tests.{eq-eqb, ne_eqb, le-leb, lt-leb, le-ltb, lt-ltb, not-true, not-false}
use lib.ListN.{length, get_or}
use Rattle.std.specs.Prelude.{Ok, Err}
use Rattle.std.specs.Int.{w16, from_le_bytes}
use Rattle.std.specs.Result.{is_ok}
use Rattle.laws.specs.Bytes.{pair_at}
use Rattle.blocks.specs.Blocks.{kind_at}
use Rattle.blocks.specs.Walk.{longest, Ending}
use Rattle.kept.specs.Keeping.{frames_left}
use Rattle.kept.specs.Planning.{is_sound}
use Rattle.kept.specs.Steps.{reach_of, fewer_of, keep_by, plan_by}
use Rattle.blocks.specs.declared.Walk.{Walk}
use Rattle.kept.specs.declared.Keep.{Keep}
use Rattle.kept.specs.declared.Unsalvaged.TheVariants.{NoHead, NoFrame}

-- the returns of `left_in`: a block of another kind, and a voice block
module _ (s : List ℕ) (at kind : ℕ) (read : kind ≡ from_le_bytes w16 (get_or s (at + 4) 0 ∷ get_or s (at + 5) 0 ∷ []))
  where
    kind_read : kind_at s at ≡ kind
    unfolding pair_at
    kind_read =
        let e : at + 4 + 1 ≡ at + 5 = omega arith in
        let f = ap (λ (i : ℕ). get_or s i 0) e in
        omega (arith, f, read)

    pub other_kind : (kind ≡ 2 → ⊥) → 0 ≡ frames_left s at
    unfolding frames_left
    other_kind n = rw (ne_eqb (kind_at s at) 2 (λ e. n (sym kind_read ∙ e)))

    pub voice_left : kind ≡ 2 → (length s - at - 6) / 18 ≡ frames_left s at
    unfolding frames_left
    voice_left k =
        let e : length s - at - 6 ≡ length s - (at + 6) = omega arith in
        rw (eq-eqb (kind_at s at) 2 (kind_read ∙ k)) (ap (λ (n : ℕ). n / 18) e)

-- how a walk ended, as `planned` asks it
pub sound_ok : (ending : Ending) → is_ok ending ≡ is_sound ending
sound_ok (Ok _) = refl
sound_ok (Err cause) = refl

-- the returns of `reach`
pub reach_none : (at left : ℕ) → left ≡ 0 → at ≡ reach_of at left
reach_none at left e = ap (reach_of at) (sym e)

pub reach_some : (at left : ℕ) → (left ≡ 0 → ⊥) → at + 6 + 18 * left ≡ reach_of at left
reach_some at zero n = absurd (n refl)
reach_some at (suc left) n = refl

-- the returns of `fewer`
pub fewer_one : (reach frames : ℕ) → 65526 < reach → frames - 1 ≡ fewer_of reach frames
fewer_one reach frames l = rw (lt-leb (reach + 10) longest (omega arith))

pub fewer_none : (reach frames : ℕ) → reach ≤ 65526 → frames ≡ fewer_of reach frames
fewer_none reach frames l = rw (le-leb (reach + 10) longest (omega arith))

-- the return of `keep_by`
pub keep_made : (w : Walk) (left : ℕ) (sound : Bool) {reach frames rest : ℕ} → reach ≡ reach_of w.at left
    → frames ≡ fewer_of reach (w.frames + left) → rest ≡ frames - w.frames
    → record { heading = w.heading; frames = frames; rest = rest; at = w.at; sound = sound } ≡ keep_by w left sound
keep_made w left sound r f o =
    let e = f ∙ ap (λ (x : ℕ). fewer_of x (w.frames + left)) r in
    λ i. record {
      heading = w.heading;
      frames = e i;
      rest = (o ∙ ap (λ (x : ℕ). x - w.frames) e) i;
      at = w.at;
      sound = sound;
    }

-- the returns of `plan_by`
module _ (w : Walk) (left : ℕ) (sound : Bool) where
  pub plan_no_head : not w.headed ≡ true → Err NoHead ≡ plan_by w left sound
  plan_no_head t = rw (not-true w.headed t)

  pub plan_no_frame : not w.headed ≡ false → w.frames + left ≡ 0 → Err NoFrame ≡ plan_by w left sound
  plan_no_frame t z = rw (not-false w.headed t, le-ltb 0 (w.frames + left) (omega arith))

  pub plan_keep : not w.headed ≡ false → (w.frames + left ≡ 0 → ⊥) → {k : Keep} → k ≡ keep_by w left sound
      → Ok k ≡ plan_by w left sound
  plan_keep t n e = rw (not-false w.headed t, lt-ltb 0 (w.frames + left) (omega (arith, n))) (ap Ok e)

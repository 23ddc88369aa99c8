-- What a recording's verdict comes to, by how its walk ended.
-- Assumes nothing.
use mathlib.Core.Path.{◌≡◌, sym, ap, ◌∙◌}
use mathlib.Core.List.{List}
use Prim.Native.Nat.{ℕ}
use lib.IntN.{ℤ, pos}
use Rattle.std.specs.Prelude.{Ok, Err}
use Rattle.blocks.specs.Walk.{walked_of}
use Rattle.blocks.specs.Refusals.{refusal_of, told_of, ending_refusal}
use Rattle.blocks.specs.declared.Cause.{Cause}
use Rattle.blocks.specs.Walk.{Ending}
use Rattle.blocks.specs.declared.Told.{Told}
use Rattle.blocks.specs.declared.Walked.{Walked}
use Rattle.verdicts.proofs.Negated.{minus_small, small_number}
use Rattle.verdicts.specs.Verdicts.{refused, minus_of, verdict_of, cause_number, refusal_told, ending_told, recording_told}

-- of a cause, by what it tells
pub told_by : (cause : Cause) {n : ℕ} {told answer : Told} → n ≡ cause_number cause → answer ≡ told_of cause
    → answer ≡ told → refusal_told told n ≡ refusal_told (told_of cause) (cause_number cause)
told_by cause {n} {told} i j k =
    ap (λ (m : ℕ). refusal_told told m) i ∙ ap (λ (t : Told). refusal_told t (cause_number cause)) (sym k ∙ j)

module _ (s : List ℕ) {walked : Walked} (is : walked ≡ walked_of s) where
  -- the answer is made of how the walk ended
  ended : {ending : Ending} → walked.ending ≡ ending → ending ≡ (walked_of s).ending
  ended e = sym e ∙ ap (λ (w : Walked). w.ending) is

  -- a refused recording
  pub was_refused : (cause : Cause) {n : ℕ} {r : ℤ} {told : List ℕ} → walked.ending ≡ Err cause
      → n ≡ refusal_of cause → r ≡ minus_of n → told ≡ refusal_told (told_of cause) (cause_number cause)
      → (r ≡ verdict_of s) × (told ≡ recording_told s)
  unfolding verdict_of recording_told
  was_refused cause e i j k = (
    j ∙ ap minus_of i ∙ minus_small (refusal_of cause) (small_number cause) ∙ ap (λ (x : Ending). refused (ending_refusal x)) (ended e),
    k ∙ ap (λ (x : Ending). ending_told x (walked_of s).walk.heading) (ended e),
  )

  -- a sound one
  pub was_sound : walked.ending ≡ Ok tt
      → (pos 0 ≡ verdict_of s) × (ending_told (Ok tt) walked.walk.heading ≡ recording_told s)
  unfolding verdict_of recording_told
  was_sound e = (
    ap (λ (x : Ending). refused (ending_refusal x)) (ended e),
    ap (λ (w : Walked). ending_told (Ok tt) w.walk.heading) is
        ∙ ap (λ (x : Ending). ending_told x (walked_of s).walk.heading) (ended e),
  )

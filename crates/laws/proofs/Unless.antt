-- A chain of refusals that has not answered a refusal.
-- Assumes nothing.
use mathlib.Core.Path.{◌≡◌, refl}
use mathlib.Core.Bool.{Bool, true, false}
use Rattle.laws.specs.Unless.{unless}

-- where the answer is not the refusal, the test holds and the rest answers it
pub goes_on : {A : Type 0} {answer : A} (holds : Bool) (refusal rest : A) → (refusal ≡ answer → ⊥)
    → unless holds refusal rest ≡ answer → (holds ≡ true) × (rest ≡ answer)
goes_on true refusal rest n e = (refl, e)
goes_on false refusal rest n e = absurd (n e)

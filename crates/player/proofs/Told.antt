-- The number for C of a refusal.
-- Assumes nothing.
use Rattle.std.proofs.Common.{◌≡◌, ◌∙◌, ℕ, ℤ, refl, ap, Err}
use Rattle.verdicts.specs.Verdicts.{refused, minus_of}
use Rattle.excitation.specs.Outcome.{Outcome, number_of, refusal_of}
use Rattle.excitation.specs.declared.Refusal.{Refusal}
use Rattle.excitation.specs.declared.Refusal.TheVariants.{WrongLength, TooLarge, NotListed, NotWhole}

-- each is small
minus_number : (e : Refusal) → minus_of (number_of e) ≡ refused (number_of e)
minus_number WrongLength = refl
minus_number TooLarge = refl
minus_number NotListed = refl
minus_number NotWhole = refl

-- the number of the outcome that is told
pub told : {e : Refusal} {is : Outcome} {n : ℕ} {r : ℤ} → Err e ≡ is → n ≡ number_of e → r ≡ minus_of n
    → r ≡ refused (refusal_of is)
told {e} i j k = k ∙ ap minus_of j ∙ minus_number e ∙ ap (λ (o : Outcome). refused (refusal_of o)) i

-- What salvaging comes to in C, by the case that its answer is.
-- Assumes nothing.
use mathlib.Core.Path.{◌≡◌, refl, sym, ap, ◌∙◌}
use mathlib.Core.List.{List}
use Prim.Native.Nat.{ℕ}
use lib.IntN.{ℤ}
use Rattle.std.specs.Prelude.{Result}
use Rattle.verdicts.specs.Verdicts.{refused, minus_of}
use Rattle.kept.specs.Planning.{number_of}
use Rattle.kept.specs.declared.Unsalvaged.{Unsalvaged}
use Rattle.kept.specs.declared.Unsalvaged.TheVariants.{TooLong, WrongBuffer, NoHead, NoFrame}
use Rattle.salvage.specs.declared.Salvaged.{Salvaged}
use Rattle.mender.specs.Results.{salvage_result, changes_left}

-- the number of each refusal is small
minus_number : (why : Unsalvaged) → minus_of (number_of why) ≡ refused (number_of why)
minus_number TooLong = refl
minus_number WrongBuffer = refl
minus_number NoHead = refl
minus_number NoFrame = refl

pub refused_by : (why : Unsalvaged) {n : ℕ} {r : ℤ} → n ≡ number_of why → r ≡ minus_of n → r ≡ refused (number_of why)
refused_by why i j = j ∙ ap minus_of i ∙ minus_number why

-- by the answer, and the case that it is
pub came_to : (long : ℕ) (o : List ℕ) {answer is case : Result Salvaged Unsalvaged} → answer ≡ is → answer ≡ case
    → (salvage_result case ≡ salvage_result is) × (changes_left case long o ≡ changes_left is long o)
came_to long o i j = (ap salvage_result (sym j ∙ i), ap (λ (x : Result Salvaged Unsalvaged). changes_left x long o) (sym j ∙ i))

-- What a test chooses.
-- Assumes nothing.
use mathlib.Core.Path.{◌≡◌, refl}
use mathlib.Core.Bool.{Bool, true, false, cond}

-- what is so of each of two answers, where the test comes out for it, is so of the one that the test chooses
pub chosen : {A : Type 0} (p : A → Type 0) (b : Bool) {x y : A} → (b ≡ true → p x) → (b ≡ false → p y) → p (cond b x y)
chosen p true f g = f refl
chosen p false f g = g refl

-- what follows from either outcome of a test holds
pub either : {A : Type 0} (t : Bool) → (t ≡ true → A) → (t ≡ false → A) → A
either true f g = f refl
either false f g = g refl

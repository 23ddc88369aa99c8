-- What listing comes to in C, by the case that the listing is.
-- Assumes nothing.
use mathlib.Core.Path.{◌≡◌, ◌∙◌, sym, ap}
use mathlib.Core.List.{List, [], ◌∷◌}
use Prim.Native.Nat.{ℕ}
use lib.IntN.{ℤ}
use Rattle.std.specs.Prelude.{Result, Ok, Err}
use Rattle.listing.specs.declared.Unlisted.TheVariants.{WrongLength}
use Rattle.listing.specs.declared.Unlisted.{Unlisted}
use Rattle.verdicts.specs.Verdicts.{refused, verdict_of, recording_told}
use Rattle.lister.specs.Results.{list_result, end_left, numbers_left}

module _ (s e t : List ℕ) {answer is : Result ℕ Unlisted} (i : answer ≡ is) where
  -- the result, and what the lent numbers hold then
  abbrev Told : ℤ → List ℕ → List ℕ → Type 0
  Told r e' t' = (r ≡ list_result is s) × ((e' ≡ end_left is e) × (t' ≡ numbers_left is s t))

  by : {case : Result ℕ Unlisted} → answer ≡ case → Told (list_result case s) (end_left case e) (numbers_left case s t)
  by j =
      let k = sym j ∙ i in (
        ap (λ (x : Result ℕ Unlisted). list_result x s) k,
        (ap (λ (x : Result ℕ Unlisted). end_left x e) k, ap (λ (x : Result ℕ Unlisted). numbers_left x s t) k),
      )

  pub no_room : {why : Unlisted} → answer ≡ Err why → Told (refused 1) e t
  no_room {why = WrongLength} j = by j

  pub was_listed : {n : ℕ} {r : ℤ} {t' : List ℕ} → answer ≡ Ok n → r ≡ verdict_of s → t' ≡ recording_told s
      → Told r (n ∷ []) t'
  was_listed j k l = let b = by j in (k ∙ b.0, (b.1.0, l ∙ b.1.1))

-- The rank of a delay by the four stretches: what is found there is the delay's rank, and what is not has none.
-- Assumes nothing.
use mathlib.Core.Path.{◌≡◌, ◌∙◌, sym, refl, ap}
use mathlib.Core.Bool.{cond}
use Prim.Native.Nat.{ℕ, ◌+◌, ◌-◌, ◌/◌, ◌%◌, ◌<◌, ◌≤◌}
use native.Mathlib.Omega.{arith}
use native.Mathlib.Decide.{ℕ_discrete, dec_lt}
use borrow.Author.Tests.{lt-ltb, le-ltb, eq-eqb, ne_eqb}
use lib.Dec.{ltb}
use Rattle.laws.proofs.Place.{place_within}
use Rattle.delays.specs.Table.{delays, twelfths_of, rank_with}
use Rattle.std.specs.Prelude.{Some, Result, Ok, Err}
use Rattle.std.specs.Result.{OkIff, result_ok}
use Rattle.delays.specs.Codes.{rank_found}
use Rattle.delays.specs.Steps.{rank_in}
use Rattle.delays.proofs.Table.{delays_long, searched, searched_twelfths, rank_twelfths, twelfths_rank}
use Rattle.delays.proofs.Table.{in_first_thirds, in_quarters, in_second_thirds, in_wholes}

-- a delay that is not found has no rank: if it had one, that would be found
unlisted : (delay : ℕ) → searched delay ≡ 256 → 256 ≡ rank_with delay
unfolding rank_with
unlisted delay e = here (dec_lt (rank_with delay) 256)
  where
    here : Dec (rank_with delay < 256) → 256 ≡ rank_with delay
    here (yes h) =
        let found : searched delay ≡ rank_with delay =
        ap searched (sym (twelfths_rank delay h)) ∙ searched_twelfths (rank_with delay) h in
        absurd (omega arith)
    here (no n) = omega (arith, place_within delay delays, delays_long)

-- a rank that has the delay is the delay's rank
has : (delay rank : ℕ) → rank < 256 → twelfths_of rank ≡ delay → rank ≡ rank_with delay
has delay rank h e = sym (rank_twelfths rank h) ∙ ap rank_with e

-- a number that goes into a byte is a rank that is found
pub narrowed : {E : Type 0} (n : ℕ) (r : Result ℕ E) → OkIff r (n < 256) n → result_ok r ≡ rank_found n
narrowed n (Ok x) h = rw (lt-ltb n 256 h.0) (ap Some h.1)
narrowed n (Err e) h = rw (le-ltb n 256 (omega (arith, h))) refl

-- what the two ways through a stretch answer
module _ (from step first delay : ℕ) where
  -- a delay between two steps has no rank in it
  pub between : ((delay - from) % step ≡ 0 → ⊥) → 256 ≡ rank_in from step first delay
  between n = rw (ne_eqb ((delay - from) % step) 0 n) refl

  -- any other one has the rank that is so many steps on
  pub on_step : (delay - from) % step ≡ 0 → first + (delay - from) / step ≡ rank_in from step first delay
  on_step e = rw (eq-eqb ((delay - from) % step) 0 e) refl

  -- where the stretch is searched and the rank so many steps on has the delay, what the stretch answers is its rank
  in_stretch : searched delay ≡ rank_in from step first delay
      → ((delay - from) % step ≡ 0
      → (first + (delay - from) / step < 256) × (twelfths_of (first + (delay - from) / step) ≡ delay))
      → rank_in from step first delay ≡ rank_with delay
  in_stretch s on = go (ℕ_discrete ((delay - from) % step) 0)
    where
      go : Dec ((delay - from) % step ≡ 0) → rank_in from step first delay ≡ rank_with delay
      go (yes e) = sym (on_step e) ∙ has delay (first + (delay - from) / step) (on e).0 (on e).1
      go (no n) = sym (between n) ∙ unlisted delay (s ∙ sym (between n))

-- what each way through the search answers
module _ (delay : ℕ) where
  -- a delay under 20 samples has no rank
  pub too_short : delay < 240 → 256 ≡ rank_with delay
  unfolding searched
  too_short h = unlisted delay (simp (lt-ltb delay 240 h))

  -- from 20 samples in thirds
  pub first_thirds : 240 ≤ delay → delay < 312 → rank_in 240 4 0 delay ≡ rank_with delay
  unfolding searched
  first_thirds l h =
      in_stretch 240 4 0 delay (simp (le-ltb delay 240 l, lt-ltb delay 312 h))
      (λ e. (omega arith, sym (in_first_thirds (0 + (delay - 240) / 4) (omega arith)) ∙ omega arith))

  -- from 26 samples in quarters
  pub quarters : 312 ≤ delay → delay < 408 → rank_in 312 3 18 delay ≡ rank_with delay
  unfolding searched
  quarters l h =
      in_stretch 312 3 18 delay (simp (le-ltb delay 240 (omega arith), le-ltb delay 312 l, lt-ltb delay 408 h))
      (λ e. (omega arith, sym (in_quarters (18 + (delay - 312) / 3) (omega arith) (omega arith)) ∙ omega arith))

  -- from 34 samples on, what is left to search
  searched_late : 408 ≤ delay
      → searched delay
      ≡ cond (ltb delay 960) (rank_in 408 4 50 delay) (cond (ltb delay 1776) (rank_in 960 12 188 delay) 256)
  unfolding searched
  searched_late l = simp (le-ltb delay 240 (omega arith), le-ltb delay 312 (omega arith), le-ltb delay 408 l)

  -- from 34 samples in thirds
  pub second_thirds : 408 ≤ delay → delay < 960 → rank_in 408 4 50 delay ≡ rank_with delay
  second_thirds l h =
      in_stretch 408 4 50 delay (searched_late l ∙ simp (lt-ltb delay 960 h))
      (λ e. (omega arith, sym (in_second_thirds (50 + (delay - 408) / 4) (omega arith) (omega arith)) ∙ omega arith))

  -- from 80 samples in whole ones
  pub wholes : 960 ≤ delay → delay < 1776 → rank_in 960 12 188 delay ≡ rank_with delay
  wholes l h =
      in_stretch 960 12 188 delay (searched_late (omega arith) ∙ simp (le-ltb delay 960 l, lt-ltb delay 1776 h))
      (λ e. (omega arith, sym (in_wholes (188 + (delay - 960) / 12) (omega arith) (omega arith)) ∙ omega arith))

  -- a delay of 148 samples or more has no rank
  pub too_long : 1776 ≤ delay → 256 ≡ rank_with delay
  too_long l =
      unlisted delay (searched_late (omega arith) ∙ simp (le-ltb delay 960 (omega arith), le-ltb delay 1776 l))

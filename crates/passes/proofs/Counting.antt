-- What one frame counts, and what the first frames count together.
-- Assumes nothing.
use mathlib.Core.Path.{◌≡◌, sym, refl, ap}
use mathlib.Core.Bool.{Bool, true, false, cond}
use mathlib.Core.List.{List}
use Prim.Native.Nat.{ℕ, ◌+◌, ◌-◌, ◌≤◌}
use native.Mathlib.Omega.{arith}
use borrow.Author.Tests.{eq-eqb, ne_eqb}
use lib.Dec.{eqb}
use Rattle.laws.proofs.Total.{total_more, total_most}
use Rattle.laws.specs.Total.{total}
use Rattle.frame.specs.Answers.{reading_of}
use Rattle.frame.specs.declared.Correction.{Correction}
use Rattle.frame.specs.declared.Correction.TheVariants.{Clean, Parity, Data}
use Rattle.std.specs.Prelude.{Some}
use Rattle.values.specs.declared.State.{State}
use Rattle.passes.specs.Counted.{repair_of, repair_by, breaks_at, break_of, counting_of, counting, frame_at}
use Rattle.passes.specs.Counted.{last_before, break_at, counts_to}
use Rattle.passes.specs.declared.Counts.{Counts}

-- the returns of `steps::repair_by`: the correction is one of its cases
pub repair_told : (c : Correction) {d : Correction} → c ≡ d → repair_of d ≡ repair_of c
repair_told c e = ap repair_of (sym e)

-- the returns of `steps::break_by`: 1 where SY is the one at which there is a break, or else 0
module _ (sy at : ℕ) where
  -- the same SY is a break
  pub break_one : sy ≡ at → 1 ≡ break_of sy at
  break_one e = rw (eq-eqb sy at e)

  -- any other is none
  pub break_none : (sy ≡ at → ⊥) → 0 ≡ break_of sy at
  break_none w = rw (ne_eqb sy at w)

-- a frame counts at most one repair
pub repair_small : (c : Correction) → repair_of c ≤ 1
repair_small Clean = omega arith
repair_small (Parity n) = omega arith
repair_small (Data f i) = omega arith

-- and at most one break
pub break_small : (sy at : ℕ) → break_of sy at ≤ 1
break_small sy at = go (eqb sy at)
  where
    go : (b : Bool) → cond b 1 0 ≤ 1
    go true = omega arith
    go false = omega arith

-- the return of `steps::counted`
pub counted : (c : Counts) (x : Correction) (sy at : ℕ) {more broken : ℕ} → more ≡ repair_of x → broken ≡ break_of sy at
    → record { repaired = c.repaired + more; breaks = c.breaks + broken } ≡ counting_of c x sy at
counted c x sy at p q = λ i. record { repaired = c.repaired + p i; breaks = c.breaks + q i }

module _ (before : State) (frames : List (List ℕ)) where
  -- no frame counts nothing
  pub counts_none : record { repaired = 0; breaks = 0 } ≡ counts_to before frames 0
  unfolding counts_to total
  counts_none = refl

  -- behind frame n its SY is the last
  pub last_behind : (n m : ℕ) → 1 ≤ n → m ≡ n + 1 → last_before before frames m
      ≡ Some (reading_of (frame_at frames n)).indices.sy
  last_behind n m h e =
      let k : m - 1 ≡ n = omega arith in
      rw (ne_eqb m 1 (λ o. omega arith)) (ap (λ (i : ℕ). Some (reading_of (frame_at frames i)).indices.sy) k)

  -- the counts of one frame more, after the last SY before it
  pub counts_more : (k : ℕ)
      → counting (counts_to before frames k) (last_before before frames (k + 1)) (reading_of (frame_at frames (k + 1)))
      ≡ counts_to before frames (k + 1)
  unfolding counts_to
  counts_more k =
      λ i. record {
        repaired = sym (total_more (λ n. repair_by (reading_of (frame_at frames n))) k) i;
        breaks = sym (total_more (break_at before frames) k) i;
      }

  -- none is counted twice
  pub repaired_few : (k : ℕ) → (counts_to before frames k).repaired ≤ k
  unfolding counts_to
  repaired_few k =
      omega (
        arith,
        total_most (λ n. repair_by (reading_of (frame_at frames n))) 1 k
            (λ n a b. repair_small (reading_of (frame_at frames n)).correction),
      )

  -- no more breaks than frames are counted
  pub breaks_few : (k : ℕ) → (counts_to before frames k).breaks ≤ k
  unfolding counts_to
  breaks_few k =
      omega (
        arith,
        total_most (break_at before frames) 1 k
            (λ n a b. break_small (reading_of (frame_at frames n)).indices.sy (breaks_at (last_before before frames n))),
      )

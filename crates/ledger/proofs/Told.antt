-- What a recording entered and a key that is asked for come to as numbers.
-- Assumes nothing.
use mathlib.Core.Path.{◌≡◌, sym, ap, ◌∙◌, refl}
use mathlib.Core.List.{List}
use Prim.Native.Nat.{ℕ}
use lib.IntN.{ℤ}
use Rattle.std.specs.Prelude.{Ok, Err}
use Rattle.verdicts.specs.Verdicts.{refused, minus_of, verdict_of}
use Rattle.blocks.specs.Refusals.{ending_refusal}
use Rattle.blocks.specs.Walk.{walked_of}
use Rattle.blocks.specs.declared.Cause.{Cause}
use Rattle.blocks.specs.Walk.{Ending}
use Rattle.tally.specs.Entering.{of_entry, entering_by, entering_of, recording_entry}
use Rattle.tally.specs.declared.Entry.{Entry}
use Rattle.tally.specs.Tally.{numbered}
use Rattle.tally.specs.Book.{tallied}
use Rattle.ledger.specs.Results.{enter_result, entering_result, held_result, count_left}
use native.Mathlib.Omega.{arith}
use Rattle.std.specs.Prelude.{Option, Result, Ok, Err}
use Rattle.tally.specs.declared.Tallied.{Tallied}
use Rattle.tally.specs.declared.Refusal.{Refusal}
use Rattle.tally.specs.declared.Refusal.TheVariants.{OtherCount, Full}
use Rattle.tally.specs.declared.RecordingRefusal.{RecordingRefusal}
use Rattle.tally.specs.declared.RecordingRefusal.TheVariants.{Unsound}

-- a refusal has the result of its number
minus_it : (refusal : Refusal) → minus_of (numbered refusal) ≡ enter_result (Err refusal)
minus_it OtherCount = refl
minus_it Full = refl

pub refusal_told : {t : Result Tallied Refusal} {refusal : Refusal} {n : ℕ} {r : ℤ} → t ≡ Err refusal
    → n ≡ numbered refusal → r ≡ minus_of n → r ≡ enter_result t
refusal_told {t} {refusal} i j k = k ∙ ap minus_of j ∙ minus_it refusal ∙ ap enter_result (sym i)

-- a key: by the answer, and the case that it is
pub held_told : (o : List ℕ) {answer is case : Option ℕ} → answer ≡ is → answer ≡ case
    → (held_result case ≡ held_result is) × (count_left case o ≡ count_left is o)
held_told o i j = (ap held_result (sym j ∙ i), ap (λ (x : Option ℕ). count_left x o) (sym j ∙ i))

-- a refused recording has the result of its verdict
by_ending : (x : Ending) (b : List ℕ) (e : Entry) (cause : Cause) → entering_by x b e ≡ Err (Unsound cause)
    → refused (ending_refusal x) ≡ entering_result (entering_by x b e)
by_ending (Ok _) b e cause p = absurd (of_another (tallied b e) p)
  where
    of_another : (t : Result Tallied Refusal) → of_entry t ≡ Err (Unsound cause) → ⊥
    of_another (Ok answer) q = let z : ◌≡◌ {A = ℕ} 0 1 = cc in omega arith
    of_another (Err refusal) q = let z : ◌≡◌ {A = ℕ} 0 1 = cc in omega arith
by_ending (Err why) b e cause p = refl

pub was_refused : (b s : List ℕ) (count : ℕ) (cause : Cause) {answer : Result Tallied RecordingRefusal} → answer ≡ entering_of b s count
    → answer ≡ Err (Unsound cause) → verdict_of s ≡ entering_result (entering_of b s count)
unfolding verdict_of entering_of
was_refused b s count cause i j = by_ending (walked_of s).ending b (recording_entry s count) cause (sym i ∙ j)

-- any other that of entering its entry
pub was_entered : (b s : List ℕ) (count : ℕ) {answer is : Result Tallied RecordingRefusal} → answer ≡ entering_of b s count
    → answer ≡ is → entering_result is ≡ entering_result (entering_of b s count)
was_entered b s count i j = ap entering_result (sym j ∙ i)

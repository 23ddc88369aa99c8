-- What a walk tells is small: a head's numbers have ten digits at most, there are no more frames than bytes, and each
-- number that a refusal shows has ten digits at most. Assumes nothing.
use mathlib.Core.Path.{◌≡◌, refl, ap, subst}
use mathlib.Core.Bool.{false, not}
use mathlib.Core.List.{List, [], ◌∷◌}
use Prim.Native.Nat.{ℕ, ◌+◌, ◌*◌, ◌^◌, ◌<◌, ◌≤◌}
use native.Mathlib.Omega.{arith}
use native.Mathlib.Decide.{dec_le}
use borrow.Author.Tests.{leb-true}
use lib.Dec.{eqb, leb, ltb}
use lib.ListN.{length, get_or}
use Rattle.std.specs.Prelude.{Result, Ok, Err}
use Rattle.std.specs.declared.ops.ControlFlow.TheVariants.{Continue, Break}
use Rattle.laws.specs.Bytes.{word_at}
use Rattle.laws.proofs.Chosen.{chosen}
use Rattle.blocks.specs.Blocks.{size_at, kind_at, right_size, block_at}
use Rattle.blocks.specs.Walk.{longest, met, step_of, walked_of}
use Rattle.blocks.specs.Refusals.{told_of}
use Rattle.blocks.specs.declared.Cause.TheVariants.{TooLong}
use Rattle.blocks.specs.declared.Heading.{Heading}
use Rattle.blocks.specs.declared.Block.{Block}
use Rattle.blocks.specs.declared.Cause.{Cause}
use Rattle.blocks.specs.declared.Block.TheVariants.{Head, Voice, End}
use Rattle.blocks.specs.Walk.{Ending}
use Rattle.blocks.specs.declared.Walk.{Walk}
use Rattle.blocks.specs.declared.Walked.{Walked}
use Rattle.blocks.specs.Walk.{Moved}
use Rattle.blocks.proofs.Blocks.{head_held, end_held}
use Rattle.blocks.proofs.Walks.{step_on, step_further, walked_keeps, walked_stops, too_long}
use Rattle.lines.specs.Lines.{numbers_shown}

-- ---- the numbers of a refusal

-- each has ten digits at most
unfoldable pub Tens : List ℕ → Type 0
Tens [] = Unit
Tens (n ∷ ns) = (n < 10 ^ 10) × Tens ns

-- so of what an ending shows, if it is a refusal
unfoldable pub Brief : Ending → Type 0
Brief (Ok _) = Unit
Brief (Err cause) = Tens (numbers_shown (told_of cause))

-- of what stands at a place
BriefBlock : Result Block Cause → Type 0
BriefBlock (Ok (Head heading)) = Unit
BriefBlock (Ok (Voice size)) = Unit
BriefBlock (Ok (End told)) = Unit
BriefBlock (Err cause) = Tens (numbers_shown (told_of cause))

-- and of what a step comes to
BriefMove : Moved → Type 0
BriefMove (Continue w) = Unit
BriefMove (Break ending) = Brief ending

module _ (s : List ℕ) (short : length s ≤ longest) where
  -- the block at a place within the recording: a size that is told fits there
  block_brief : (at : ℕ) → at ≤ length s → BriefBlock (block_at s at)
  unfolding BriefBlock Tens block_at
  block_brief at h =
      chosen BriefBlock (ltb at (length s)) (λ a.
      chosen BriefBlock (leb (at + 6) (length s)) (λ b.
      chosen BriefBlock (leb (at + 6 + size_at s at) (length s)) (λ c.
      chosen BriefBlock (right_size (kind_at s at) (size_at s at)) (λ d.
      chosen BriefBlock (eqb (kind_at s at) 1) (λ e. tt) (λ e.
      chosen BriefBlock (eqb (kind_at s at) 2) (λ f. tt) (λ f.
      chosen BriefBlock (eqb (kind_at s at) 3) (λ g. tt) (λ g. (omega arith, tt)))))
      (λ d. (omega arith, (omega (arith, leb-true (at + 6 + size_at s at) (length s) c), tt))))
      (λ c. (omega arith, tt))) (λ b. (omega arith, tt))) (λ a. (omega arith, tt))

  -- a step of a walk that is within it
  step_brief : (w : Walk) → w.at ≤ length s → BriefMove (step_of s w)
  unfolding Brief BriefBlock BriefMove Tens step_of
  step_brief w k = go (block_at s w.at) refl (block_brief w.at k)
    where
      go : (b : Result Block Cause) → block_at s w.at ≡ b → BriefBlock b → BriefMove (met s w b)
      go (Ok (Head heading)) e p = chosen BriefMove (not w.headed) (λ t. tt) (λ t. (omega arith, tt))
      go (Ok (Voice size)) e p = chosen BriefMove w.headed (λ t. tt) (λ t. (omega arith, tt))
      go (Ok (End told)) e p =
          chosen Brief (ltb 0 w.frames) (λ a.
          chosen Brief (eqb told w.frames) (λ b.
          chosen Brief (eqb (length s) (w.at + 6 + 4)) (λ c. tt)
          (λ c. (omega (arith, (end_held s w.at told e).0.fits), tt))) (λ b. (omega arith, tt))) (λ a. (omega arith, tt))
      go (Err cause) e p = p

-- ---- the numbers of a head, and how many frames

-- a walk that has passed no more than it tells
pub record Small (s : List ℕ) (w : Walk) : Type 0 where
  pub within : w.at ≤ length s
  pub few : 18 * w.frames ≤ w.at
  pub unit : w.heading.unit < 10 ^ 10
  pub number : w.heading.number < 10 ^ 10

-- four bytes make a number of ten digits at most
word_small : (s : List ℕ) → ((i : ℕ) → get_or s i 0 < 256) → (at : ℕ) → word_at s at < 10 ^ 10
unfolding word_at
word_small s b at = omega (arith, b at, b (at + 1), b (at + 2), b (at + 3))

module _ (s : List ℕ) (bytes : (i : ℕ) → get_or s i 0 < 256) where
  small_on : (w next : Walk) → Small s w → step_of s w ≡ Continue next → Small s next
  small_on w next k o =
      let f = step_further s w next o in
      let m = step_on s w next (λ x. (x.heading.unit < 10 ^ 10) × (x.heading.number < 10 ^ 10)) head
      (λ size e t. (k.unit, k.number)) o in
      record { within = f.within; few = f.room k.few; unit = m.0; number = m.1 }
    where
      head : (h : Heading) → block_at s w.at ≡ Ok (Head h) → w.headed ≡ false → (h.unit < 10 ^ 10)
          × (h.number < 10 ^ 10)
      head h e t =
          let a = (head_held s w.at h e).1 in
          (rw a (word_small s bytes (w.at + 6)), rw a (word_small s bytes (w.at + 10)))

  -- what an answered walk tells is small
  pub walked_small : Small s (walked_of s).walk
  walked_small =
      walked_keeps s (Small s) small_on
      (record { within = omega arith; few = omega arith; unit = omega arith; number = omega arith })

  -- ---- the whole

  -- the numbers of its refusal have ten digits at most
  pub walked_brief : Brief (walked_of s).ending
  unfolding Brief BriefMove Tens
  walked_brief = go (dec_le (length s) longest)
    where
      go : Dec (length s ≤ longest) → Brief (walked_of s).ending
      go (yes short) =
          subst BriefMove (walked_stops s short) (step_brief s short (walked_of s).walk walked_small.within)
      go (no w) =
          let e : Err TooLong ≡ (walked_of s).ending = ap (λ (x : Walked). x.ending) (too_long s (omega arith)) in
          subst Brief e (omega arith, tt)

-- The walk: each step passes bytes, so that it comes to its end.
-- Assumes nothing.
use mathlib.Core.Path.{◌≡◌, ◌∙◌, sym, refl, ap, subst}
use mathlib.Core.Bool.{Bool, true, false, not}
use mathlib.Core.List.{List}
use Prim.Native.Nat.{ℕ, zero, suc, ◌+◌, ◌-◌, ◌*◌, ◌<◌, ◌≤◌}
use native.Mathlib.Omega.{arith}
use borrow.Author.Tests.{lt-ltb, le-ltb, le-leb, lt-leb, eq-eqb, ne_eqb, leb-true, ltb-true, eqb-true, not-true}
use lib.Dec.{eqb, leb, ltb}
use lib.ListN.{length}
use Rattle.std.specs.Prelude.{Result, Ok, Err}
use Rattle.std.specs.declared.ops.ControlFlow.TheVariants.{Continue, Break}
use Rattle.laws.specs.Unless.{unless}
use Rattle.laws.proofs.Turns.{turns_once}
use Rattle.laws.proofs.Chosen.{chosen}
use Rattle.blocks.specs.Blocks.{block_at}
use Rattle.blocks.specs.Walk.{longest, refuse, past_head_of, past_voice_of, at_head, at_voice, ending_at, met}
use Rattle.blocks.specs.Walk.{step_of, at_start}
use Rattle.blocks.specs.Walk.{stopped, onward, walk_from, walked_of}
use Rattle.blocks.specs.declared.Cause.{Cause}
use Rattle.blocks.specs.declared.Cause.TheVariants.{TooLong, OutOfTurn, EndMissing, WrongCount, Extra}
use Rattle.blocks.specs.declared.Heading.{Heading}
use Rattle.blocks.specs.declared.Block.{Block}
use Rattle.blocks.specs.declared.Block.TheVariants.{Head, Voice, End}
use Rattle.blocks.specs.Walk.{Ending}
use Rattle.blocks.specs.declared.Walked.{Walked}
use Rattle.blocks.specs.declared.Walk.{Walk}
use Rattle.blocks.specs.Walk.{Moved}
use Rattle.blocks.proofs.Blocks.{head_held, voice_held}

-- the returns of `meet_head`, `meet_voice` and `ending_at`
pub second_head : (w : Walk) (h : Heading) → w.headed ≡ true → refuse (OutOfTurn w.at) ≡ at_head w h
second_head w h t = rw t

-- the first is passed
pub first_head : (w : Walk) (h : Heading) → w.headed ≡ false → Continue (past_head_of w h) ≡ at_head w h
first_head w h t = rw t

-- a voice block before the head is out of turn
pub voice_first : (w : Walk) (size : ℕ) → w.headed ≡ false → refuse (OutOfTurn w.at) ≡ at_voice w size
voice_first w size t = rw t

-- one after it is passed
pub voice_passed : (w : Walk) (size : ℕ) → w.headed ≡ true → Continue (past_voice_of w size) ≡ at_voice w size
voice_passed w size t = sym (ap (λ (b : Bool). unless b (refuse (OutOfTurn w.at)) (Continue (past_voice_of w size))) t)

module _ (long at frames told : ℕ) where
  -- an end before any frame is out of turn
  pub end_early : frames ≡ 0 → Err (OutOfTurn at) ≡ ending_at long at frames told
  end_early z = rw (le-ltb 0 frames (omega arith))

  module _ (some : frames ≡ 0 → ⊥) where
    -- an end that tells another number
    pub wrong_count : (told ≡ frames → ⊥) → Err (WrongCount at) ≡ ending_at long at frames told
    wrong_count n = rw (lt-ltb 0 frames (omega (arith, some)), ne_eqb told frames n)

    -- bytes after it
    pub extra_bytes : told ≡ frames → (long ≡ at + 6 + 4 → ⊥)
        → Err (Extra (at + 6 + 4)) ≡ ending_at long at frames told
    extra_bytes n x = rw (lt-ltb 0 frames (omega (arith, some)), eq-eqb told frames n, ne_eqb long (at + 6 + 4) x)

    -- an end that is right and the last
    pub end_right : told ≡ frames → long ≡ at + 6 + 4 → Ok tt ≡ ending_at long at frames told
    end_right n x = rw (lt-ltb 0 frames (omega (arith, some)), eq-eqb told frames n, eq-eqb long (at + 6 + 4) x)

-- a step is what the block there does to the walk
pub step_met : (s : List ℕ) (w : Walk) (b : Result Block Cause) → block_at s w.at ≡ b → met s w b ≡ step_of s w
unfolding step_of
step_met s w b e = ap (met s w) (sym e)

-- what a step saw: a head or a voice block in its turn, an end block that was right, or a refusal
data Stepped (s : List ℕ) (w : Walk) : Moved → Type 0 where
  passed_head : (h : Heading) → block_at s w.at ≡ Ok (Head h) → w.headed ≡ false → Stepped s w (Continue (past_head_of w h))
  passed_voice : (size : ℕ) → block_at s w.at ≡ Ok (Voice size) → w.headed ≡ true → Stepped s w (Continue (past_voice_of w size))
  ended : block_at s w.at ≡ Ok (End w.frames) → 0 < w.frames → length s ≡ w.at + 6 + 4 → Stepped s w (Break (Ok tt))
  refused : (cause : Cause) → Stepped s w (refuse cause)

-- so it is of every step
stepped : (s : List ℕ) (w : Walk) → Stepped s w (step_of s w)
unfolding step_of
stepped s w = go (block_at s w.at) refl
  where
    go : (b : Result Block Cause) → block_at s w.at ≡ b → Stepped s w (met s w b)
    go (Ok (Head h)) e =
        chosen (Stepped s w) (not w.headed) (λ t. passed_head h e (not-true w.headed t))
        (λ t. refused (OutOfTurn w.at))
    go (Ok (Voice size)) e = chosen (Stepped s w) w.headed (λ t. passed_voice size e t)
        (λ t. refused (OutOfTurn w.at))
    go (Ok (End told)) e =
        chosen (λ (x : Ending). Stepped s w (Break x)) (ltb 0 w.frames) (λ a.
        chosen (λ (x : Ending). Stepped s w (Break x)) (eqb told w.frames) (λ b.
        chosen (λ (x : Ending). Stepped s w (Break x)) (eqb (length s) (w.at + 6 + 4)) (λ c.
        ended (e ∙ ap (λ n. Ok (End n)) (eqb-true told w.frames b)) (ltb-true 0 w.frames a)
        (eqb-true (length s) (w.at + 6 + 4) c))
        (λ c. refused (Extra (w.at + 6 + 4)))) (λ b. refused (WrongCount w.at)))
        (λ a. refused (OutOfTurn w.at))
    go (Err cause) e = refused cause

-- what is so past a head and past a voice block, each in its turn, is so of every walk that a step goes on to
pub step_on : (s : List ℕ) (w next : Walk) (p : Walk → Type 0)
    → ((h : Heading) → block_at s w.at ≡ Ok (Head h) → w.headed ≡ false → p (past_head_of w h))
    → ((size : ℕ) → block_at s w.at ≡ Ok (Voice size) → w.headed ≡ true → p (past_voice_of w size)) → step_of s w ≡ Continue next
    → p next
step_on s w next p f g o = subst Onward o (of (step_of s w) (stepped s w))
  where
    Onward : Moved → Type 0
    Onward (Continue next) = p next
    Onward (Break ending) = Unit

    of : (m : Moved) → Stepped s w m → Onward m
    of _ (passed_head h e t) = f h e t
    of _ (passed_voice size e t) = g size e t
    of _ (ended e c l) = tt
    of _ (refused cause) = tt

-- a step to a sound end is one at an end block that is in its turn, tells the right number and is the last
pub record Ended (s : List ℕ) (w : Walk) : Type 0 where
  pub block : block_at s w.at ≡ Ok (End w.frames)
  pub some : 0 < w.frames
  pub last : length s ≡ w.at + 6 + 4

-- so it is of a step that ends soundly
pub step_sound : (s : List ℕ) (w : Walk) → step_of s w ≡ Break (Ok tt) → Ended s w
step_sound s w o = subst Soundly o (of (step_of s w) (stepped s w))
  where
    Soundly : Moved → Type 0
    Soundly (Continue next) = Unit
    Soundly (Break (Ok _)) = Ended s w
    Soundly (Break (Err cause)) = Unit

    of : (m : Moved) → Stepped s w m → Soundly m
    of _ (passed_head h e t) = tt
    of _ (passed_voice size e t) = tt
    of _ (ended e c l) = record { block = e; some = c; last = l }
    of _ (refused cause) = tt

-- where a step takes a walk: further on, within the bytes, and past no more frames than there is room for
pub record Further (s : List ℕ) (w next : Walk) : Type 0 where
  pub on : w.at < next.at
  pub within : next.at ≤ length s
  pub room : 18 * w.frames ≤ w.at → 18 * next.frames ≤ next.at

-- so it is of a step that goes on
pub step_further : (s : List ℕ) (w next : Walk) → step_of s w ≡ Continue next → Further s w next
step_further s w next o =
    step_on s w next (Further s w)
    (λ h e t. let r = head_held s w.at h e in record
    { on = omega arith; within = r.0.fits; room = λ z. omega arith })
    (λ size e t.
    let r = voice_held s w.at size e in
    record { on = omega arith; within = r.0.fits; room = λ z. omega (arith, r.1, r.2) }) o

-- the walk is what it does in one step: the turns never run out
pub walk_step : (s : List ℕ) (w : Walk) → walk_from s w ≡ onward (walk_from s) w (step_of s w)
unfolding walk_from
walk_step s w =
    turns_once (stopped at_start (Err (EndMissing (length s)))) (λ further w. onward further w (step_of s w))
    (λ w. length s - w.at)
    falls (suc (length s)) w (omega arith)
  where
    go : (g h : Walk → Walked) (x : Walk) (m : Moved) → step_of s x ≡ m
        → ((y : Walk) → length s - y.at < length s - x.at → g y ≡ h y) → onward g x m ≡ onward h x m
    go g h x (Continue y) e same = let f = step_further s x y e in same y (omega (arith, f.on, f.within))
    go g h x (Break ending) e same = refl

    falls : (g h : Walk → Walked) (x : Walk) → ((y : Walk) → length s - y.at < length s - x.at → g y ≡ h y)
        → onward g x (step_of s x) ≡ onward h x (step_of s x)
    falls g h x same = go g h x (step_of s x) refl same

-- a walk that goes on comes to what it comes to from there
pub walk_on : (s : List ℕ) (w next : Walk) → step_of s w ≡ Continue next → walk_from s w ≡ walk_from s next
walk_on s w next e = walk_step s w ∙ ap (onward (walk_from s) w) e

-- one that ends stands where it ends
pub walk_done : (s : List ℕ) (w : Walk) (ending : Ending) → step_of s w ≡ Break ending → walk_from s w ≡ stopped w ending
walk_done s w ending e = walk_step s w ∙ ap (onward (walk_from s) w) e

-- the loop of `walk_from`: what is left to walk comes to the answer of the whole
pub record Walking (s : List ℕ) (start w : Walk) : Type 0 where
  pub rest : walk_from s w ≡ walk_from s start
  pub room : 18 * w.frames ≤ w.at

-- at the start
pub walking_start : (s : List ℕ) (w : Walk) → 18 * w.frames ≤ w.at → Walking s w w
walking_start s w r = record { rest = refl; room = r }

-- past one more block
pub walking_on : {s : List ℕ} {start w : Walk} (next : Walk) → Walking s start w → step_of s w ≡ Continue next
    → Walking s start next
walking_on {s} {start} {w} next k e =
    record { rest = sym (walk_on s w next e) ∙ k.rest; room = (step_further s w next e).room k.room }

-- at the end
pub walking_done : {s : List ℕ} {start w : Walk} (ending : Ending) → Walking s start w → step_of s w ≡ Break ending
    → stopped w ending ≡ walk_from s start
walking_done {s} {start} {w} ending k e = sym (walk_done s w ending e) ∙ k.rest

-- short enough, the whole is the walk from the start
pub walked_from : (s : List ℕ) → length s ≤ longest → walked_of s ≡ walk_from s at_start
unfolding walked_of
walked_from s l = rw (le-leb (length s) longest l)

-- too long, it is the walk at the start, refused
pub too_long : (s : List ℕ) → longest < length s → stopped at_start (Err TooLong) ≡ walked_of s
unfolding walked_of
too_long s h = rw (lt-leb (length s) longest h)

-- a recording that is sound is short enough
pub sound_short : (s : List ℕ) → (walked_of s).ending ≡ Ok tt → length s ≤ longest
unfolding walked_of
sound_short s e = go (leb (length s) longest) refl e
  where
    go : (b : Bool) → leb (length s) longest ≡ b
        → (unless b (stopped at_start (Err TooLong)) (walk_from s at_start)).ending ≡ Ok tt → length s ≤ longest
    go true t e = leb-true (length s) longest t
    go false t e = absurd (let z : ◌≡◌ {A = ℕ} 0 1 = cc in omega arith)

-- what is so at the start and stays so at each step is so of the walk that is answered, sound or refused
module _ (s : List ℕ) (p : Walk → Type 0) (stays : (w next : Walk) → p w → step_of s w ≡ Continue next → p next) where
  -- from any walk on, and the step there is the end that is answered
  walk_keeps : (n : ℕ) (w : Walk) → length s - w.at < n → p w
      → p (walk_from s w).walk × (step_of s (walk_from s w).walk ≡ Break (walk_from s w).ending)
  walk_keeps zero w l q = absurd (omega arith)
  walk_keeps (suc n) w l q = go (step_of s w) refl (λ next m r. walk_keeps n next m r)
    where
      go : (m : Moved) → step_of s w ≡ m
          → ((next : Walk) → length s - next.at < n → p next
          → p (walk_from s next).walk × (step_of s (walk_from s next).walk ≡ Break (walk_from s next).ending))
          → p (walk_from s w).walk × (step_of s (walk_from s w).walk ≡ Break (walk_from s w).ending)
      go (Continue next) o further =
          let f = step_further s w next o in
          subst (λ (r : Walked). p r.walk × (step_of s r.walk ≡ Break r.ending)) (sym (walk_on s w next o))
          (further next (omega (arith, f.on, f.within)) (stays w next q o))
      go (Break ending) o further =
          subst (λ (r : Walked). p r.walk × (step_of s r.walk ≡ Break r.ending)) (sym (walk_done s w ending o))
          (q, o)

  -- so of the whole
  pub walked_keeps : p at_start → p (walked_of s).walk
  unfolding walked_of
  walked_keeps q =
      chosen (λ (r : Walked). p r.walk) (leb (length s) longest)
      (λ t. (walk_keeps (suc (length s)) at_start (omega arith) q).0) (λ t. q)

-- the walk that is answered stands at the block that ends it, unless the recording is too long
pub walked_stops : (s : List ℕ) → length s ≤ longest → step_of s (walked_of s).walk ≡ Break (walked_of s).ending
walked_stops s l =
    subst (λ (r : Walked). step_of s r.walk ≡ Break r.ending) (sym (walked_from s l))
    (walk_keeps s (λ w. Unit) (λ w next q o. tt) (suc (length s)) at_start (omega arith) tt).1

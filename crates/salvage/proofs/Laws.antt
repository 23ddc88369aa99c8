-- What holds of every salvaging.
-- Assumes nothing.
use mathlib.Core.Path.{◌≡◌, ◌∙◌, sym, refl, ap, ap₂, subst}
use mathlib.Core.Bool.{true, false, cond}
use mathlib.Core.List.{List, [], ◌∷◌, ◌++◌, map, append-nil}
use mathlib.Core.Logic.{◌⊎◌, inl, inr, ◌↔◌}
use Prim.Native.Nat.{ℕ, suc, ◌+◌, ◌<◌, ◌≤◌}
use native.Mathlib.Omega.{arith}
use borrow.Author.Tests.{le-leb, lt-ltb, leb-true, leb-false, eqb-true, eqb-false, ltb-true, ltb-false}
use lib.Dec.{eqb, leb, ltb}
use lib.ListN.{length, take, drop}
use lib.Seq.{length-take-le}
use Rattle.std.specs.Prelude.{Ok, Err, Result}
use Rattle.std.specs.declared.ops.ControlFlow.TheVariants.{Continue, Break}
use Rattle.laws.proofs.Chosen.{chosen}
use Rattle.laws.proofs.Taken.{empty}
use Rattle.blocks.specs.Blocks.{block_at}
use Rattle.blocks.specs.Walk.{longest, after_head, past_head_of, step_of, at_start, stopped, walked_of}
use Rattle.blocks.specs.Frames.{spans_from, bytes_at, voices_from, payloads_of, frames_in, frames_of}
use Rattle.blocks.specs.Made.{voice_blocks, made, MadeFrom, walk_over}
use Rattle.blocks.specs.declared.Block.TheVariants.{Head}
use Rattle.blocks.specs.Walk.{Ending}
use Rattle.blocks.specs.declared.Heading.{Heading}
use Rattle.blocks.specs.declared.Walk.{Walk}
use Rattle.blocks.specs.declared.Walked.{Walked}
use Rattle.blocks.proofs.Made.{made_is_walked, walked_is_made}
use Rattle.blocks.proofs.Voices.{spans_sound, payloads_sound}
use Rattle.blocks.proofs.Passed.{frames_in_none, Way, before_head, behind_head, way, Whole, sound_whole}
use Rattle.blocks.proofs.Walks.{first_head, step_met, walked_stops, sound_short}
use Rattle.kept.specs.Keeping.{left_at, frames_at, kept_of, frames_kept, voices_kept}
use Rattle.kept.specs.Planning.{number_of, is_sound, keep_of, plan_of}
use Rattle.kept.specs.Steps.{reach_of}
use Rattle.kept.specs.declared.Keep.{Keep}
use Rattle.kept.specs.declared.Unsalvaged.{Unsalvaged}
use Rattle.kept.specs.declared.Unsalvaged.TheVariants.{TooLong, WrongBuffer, NoHead, NoFrame}
use Rattle.kept.proofs.First.{Sized, sized_at, first_all, first_sized, first_frames_lem}
use Rattle.kept.proofs.Keeps.{Kept, kept_is}
use Rattle.kept.proofs.Most.{most_more, most_some, most_is}
use Rattle.kept.proofs.Plans.{kept_count, kept_upto, Planned, plan_written}
use Rattle.salvage.specs.Promised.{Salvages, SalvageRefuses, SalvageStands, SalvagedAccepted, KeptUpToRefusal}
use Rattle.salvage.specs.Promised.{SoundUnchanged, SalvagedAgain, FewestGo, NoEmptyBlock, KeptStands}
use Rattle.salvage.specs.Salvaging.{result_of, end_of, changes_of, answer_of, salvage_of, buffer_by, buffer_of}
use Rattle.salvage.specs.Salvaging.{refusal_of, tells_of}
use Rattle.salvage.specs.declared.Salvaged.{Salvaged}
use Rattle.salvage.specs.declared.Salvaged.TheVariants.{Sound, Mended}
use Rattle.salvage.proofs.Results.{left_kept, end_within, result_short}
use Rattle.salvage.proofs.Stands.{stand}

-- ---- by what is planned

-- a plan's number
abbrev plan_number : Result Keep Unsalvaged → ℕ
plan_number (Err why) = number_of why
plan_number (Ok k) = 0

-- is that of the answer
answer_number : (s : List ℕ) (x : Result Keep Unsalvaged) → refusal_of (answer_of s x) ≡ plan_number x
answer_number s (Err why) = refl
answer_number s (Ok k) = chosen (λ (y : Salvaged). refusal_of (Ok y) ≡ 0) k.sound (λ t. refl) (λ t. refl)

salvage_number : (s : List ℕ) (room : ℕ) → refusal_of (salvage_of s room) ≡ plan_number (plan_of s room)
unfolding salvage_of
salvage_number s room = answer_number s (plan_of s room)

-- every refusal has a number
number_some : (why : Unsalvaged) → number_of why ≡ 0 → ⊥
number_some TooLong e = omega arith
number_some WrongBuffer e = omega arith
number_some NoHead e = omega arith
number_some NoFrame e = omega arith

-- where nothing is refused, something is planned
planned_of : (s : List ℕ) (room : ℕ) → Salvages s room → (k : Keep) × (plan_of s room ≡ Ok k)
planned_of s room z = go (plan_of s room) refl
  where
    go : (x : Result Keep Unsalvaged) → plan_of s room ≡ x → (k : Keep) × (plan_of s room ≡ Ok k)
    go (Err why) e =
        absurd (number_some why (sym (ap plan_number e) ∙ sym (salvage_number s room) ∙ z))
    go (Ok k) e = (k, e)

says_of : (s : List ℕ) (room : ℕ) (z : Salvages s room) → Planned s room (planned_of s room z).0
says_of s room z = let p = planned_of s room z in plan_written s room p.0 p.1

-- ---- when it is refused

-- what each plan says of the input and the buffer
abbrev Because : List ℕ → ℕ → Result Keep Unsalvaged → Type 0
Because s room (Err TooLong) = longest < length s
Because s room (Err WrongBuffer) = (length s ≤ longest) × (room ≡ longest → ⊥)
Because s room (Err NoHead) = ((length s ≤ longest) × (room ≡ longest)) × ((walked_of s).walk.headed ≡ false)
Because s room (Err NoFrame) =
    ((length s ≤ longest) × (room ≡ longest)) × ((walked_of s).walk.headed ≡ true) × (length (frames_in (kept_of s)) ≤ 0)
Because s room (Ok k) =
    ((length s ≤ longest) × (room ≡ longest)) × ((walked_of s).walk.headed ≡ true) × (0 < length (frames_in (kept_of s)))

because : (s : List ℕ) (room : ℕ) → Because s room (plan_of s room)
unfolding plan_of
because s room =
    chosen (Because s room) (leb (length s) longest) (λ a.
    chosen (Because s room) (eqb room longest) (λ b.
    chosen (Because s room) (walked_of s).walk.headed (λ c.
    chosen (Because s room) (ltb 0 (length (frames_in (kept_of s)))) (λ d.
    ((leb-true _ _ a, eqb-true _ _ b), c, ltb-true _ _ d))
    (λ d. ((leb-true _ _ a, eqb-true _ _ b), c, ltb-false _ _ d)))
    (λ c. ((leb-true _ _ a, eqb-true _ _ b), c)))
    (λ b. (leb-true _ _ a, eqb-false _ _ b)))
    (λ a. leb-false _ _ a)

-- past a head the input begins with it, and before one with none
head_there : (s : List ℕ) → (walked_of s).walk.headed ≡ true → (h : Heading) × (block_at s 0 ≡ Ok (Head h))
head_there s t = go (walked_of s).walk refl (way s)
  where
    go : (w : Walk) → (walked_of s).walk ≡ w → Way s w → (h : Heading) × (block_at s 0 ≡ Ok (Head h))
    go w i before_head = absurd (let z : ◌≡◌ {A = ℕ} 0 1 = cc in omega arith)
    go w i (behind_head _ ps b) = (w.heading, b.head)

no_head_there : (s : List ℕ) → length s ≤ longest → (walked_of s).walk.headed ≡ false → (h : Heading)
    → block_at s 0 ≡ Ok (Head h) → ⊥
no_head_there s l t h e = go (walked_of s).walk refl (way s)
  where
    go : (w : Walk) → (walked_of s).walk ≡ w → Way s w → ⊥
    go w i before_head =
        let o : Continue (past_head_of at_start h) ≡ Break (walked_of s).ending
        = first_head at_start h refl ∙ step_met s at_start (Ok (Head h)) e ∙ ap (step_of s) (sym i) ∙ walked_stops s l in
        absurd (let z : ◌≡◌ {A = ℕ} 0 1 = cc in omega arith)
    go w i (behind_head _ ps b) =
        let u : true ≡ false = sym b.headed ∙ ap (λ (x : Walk). x.headed) (sym i) ∙ t in
        absurd (let z : ◌≡◌ {A = ℕ} 0 1 = cc in omega arith)

-- a recording that is short enough, and the right buffer, are no reason for 1
fits : (s : List ℕ) (room : ℕ) → (length s ≤ longest) × (room ≡ longest)
    → (longest < length s) ⊎ (room ≡ longest → ⊥) → ⊥
fits s room f (inl l) = let m = f.0 in omega (arith, l, m)
fits s room f (inr n) = n f.1

-- a head and a frame are no reason for 12
kept_some : (s : List ℕ) → (walked_of s).walk.headed ≡ true → 0 < length (frames_in (kept_of s))
    → ((heading : Heading) → block_at s 0 ≡ Ok (Head heading) → ⊥) ⊎ (frames_in (kept_of s) ≡ []) → ⊥
kept_some s t l (inl n) = let h = head_there s t in n h.0 h.1
kept_some s t l (inr e) = let z = ap length e in omega (arith, l, z)

-- 1, by the plan
one_exactly : (s : List ℕ) (room n : ℕ) (x : Result Keep Unsalvaged) → Because s room x → n ≡ plan_number x
    → (n ≡ 1) ↔ ((longest < length s) ⊎ (room ≡ longest → ⊥))
one_exactly s room n (Err TooLong) b e = (λ i. inl b, λ l. e)
one_exactly s room n (Err WrongBuffer) b e = (λ i. inr b.1, λ l. e)
one_exactly s room n (Err NoHead) b e = (λ i. absurd (omega (arith, i, e)), λ l. absurd (fits s room b.0 l))
one_exactly s room n (Err NoFrame) b e = (λ i. absurd (omega (arith, i, e)), λ l. absurd (fits s room b.0 l))
one_exactly s room n (Ok k) b e = (λ i. absurd (omega (arith, i, e)), λ l. absurd (fits s room b.0 l))

-- 12, by the plan
twelve_exactly : (s : List ℕ) (room n : ℕ) (x : Result Keep Unsalvaged) → Because s room x → n ≡ plan_number x
    → (n ≡ 12)
    ↔ (((length s ≤ longest) × (room ≡ longest))
    × (((heading : Heading) → block_at s 0 ≡ Ok (Head heading) → ⊥) ⊎ (frames_in (kept_of s) ≡ [])))
twelve_exactly s room n (Err TooLong) b e =
    (λ i. absurd (omega (arith, i, e)), λ f. absurd (fits s room f.0 (inl b)))
twelve_exactly s room n (Err WrongBuffer) b e =
    (λ i. absurd (omega (arith, i, e)), λ f. absurd (fits s room f.0 (inr b.1)))
twelve_exactly s room n (Err NoHead) b e =
    (λ i. (b.0, inl (no_head_there s b.0.0 b.1)), λ f. e)
twelve_exactly s room n (Err NoFrame) b e = (λ i. (b.0, inr (empty (frames_in (kept_of s)) b.2)), λ f. e)
twelve_exactly s room n (Ok k) b e =
    (λ i. absurd (omega (arith, i, e)), λ f. absurd (kept_some s b.1 b.2 f.1))

-- no answer tells anything
tells_nothing : (x : Result Salvaged Unsalvaged) → tells_of x ≡ []
tells_nothing (Ok Sound) = refl
tells_nothing (Ok (Mended changes)) = refl
tells_nothing (Err why) = refl

pub salvage_refuses : SalvageRefuses
unfolding SalvageRefuses
salvage_refuses s room = (
  one_exactly s room (refusal_of (salvage_of s room)) (plan_of s room) (because s room) (salvage_number s room),
  twelve_exactly s room (refusal_of (salvage_of s room)) (plan_of s room) (because s room) (salvage_number s room),
  tells_nothing (salvage_of s room),
)

-- ---- what the buffer holds

pub salvage_stands : SalvageStands
unfolding SalvageStands buffer_of salvage_of
salvage_stands s o = go (plan_of s (length o)) refl
  where
    go : (x : Result Keep Unsalvaged) → plan_of s (length o) ≡ x
        → ((Salvages s (length o) → ⊥) → buffer_by (answer_of s x) (result_of s) o ≡ o)
        × (Salvages s (length o) → buffer_by (answer_of s x) (result_of s) o ≡ result_of s ++ drop (length (result_of s)) o)
    go (Err why) e = (
      λ n. refl,
      λ z. absurd (number_some why (sym (ap plan_number e) ∙ sym (salvage_number s (length o)) ∙ z)),
    )
    go (Ok k) e =
        (λ n. absurd (n (salvage_number s (length o) ∙ ap plan_number e)), λ z. left_kept s o k)

-- ---- what is written

-- payloads that have a frame are some
frames_some : (ps : List (List ℕ)) → 0 < length (frames_in ps) → 0 < length ps
frames_some [] l = absurd (let n = frames_in_none in omega (arith, n))
frames_some (p ∷ ps) l = omega arith

module _ (s : List ℕ) (room : ℕ) (z : Salvages s room) where
  says : Planned s room (planned_of s room z).0
  says = says_of s room z

  -- the blocks of all that can be kept end within 65,536 bytes
  blocks_short : after_head 0 + length (voice_blocks (kept_of s)) ≤ longest
  blocks_short =
      let e = says.kept.ends in
      let w = says.kept.within in
      let l = says.short in
      omega (arith, e, w, l)

  -- a frame is kept
  some_kept : 0 < frames_kept s
  unfolding frames_kept
  some_kept = most_some (walked_of s).walk.heading (kept_of s) says.kept.sized blocks_short says.some

  -- what is kept are whole frames, and no block is empty
  kept_sized : Sized (voices_kept s)
  unfolding voices_kept
  kept_sized = first_sized (kept_of s) (frames_kept s) says.kept.sized

  -- the result is made as the format says
  result_made : MadeFrom (result_of s) (walked_of s).walk.heading (voices_kept s)
  unfolding result_of
  result_made =
      let n = kept_count s says.short says.kept in
      let m = some_kept in
      record {
        is = refl;
        short = result_short s;
        some = frames_some (voices_kept s) (omega (arith, n, m));
        positive = λ k l. (sized_at (voices_kept s) kept_sized k l).0;
        whole = λ k l. (sized_at (voices_kept s) kept_sized k l).1;
      }

  -- so it is walked through, and has these payloads
  result_walked : walked_of (result_of s) ≡ stopped (walk_over (walked_of s).walk.heading (voices_kept s)) (Ok tt)
  result_walked = (made_is_walked (result_of s) (walked_of s).walk.heading (voices_kept s) result_made).0

  result_payloads : payloads_of (result_of s) ≡ voices_kept s
  result_payloads = (made_is_walked (result_of s) (walked_of s).walk.heading (voices_kept s) result_made).1

  -- and these frames
  result_frames : frames_of (result_of s) ≡ take (frames_kept s) (frames_in (kept_of s))
  unfolding frames_of voices_kept
  result_frames =
      ap frames_in result_payloads ∙ first_frames_lem (kept_of s) (frames_kept s) says.kept.sized

pub salvaged_accepted : SalvagedAccepted
unfolding SalvagedAccepted
salvaged_accepted s room z =
    let p = says s room z in (
      ap (λ (w : Walked). w.ending) (result_walked s room z),
      p.kept.head ∙ ap (λ (w : Walked). Ok (Head w.walk.heading)) (sym (result_walked s room z)),
      result_frames s room z,
      ap length (result_frames s room z)
          ∙ length-take-le (frames_kept s) (frames_in (kept_of s)) (kept_upto s p.short p.kept),
    )

pub kept_up_to_refusal : KeptUpToRefusal
unfolding KeptUpToRefusal
kept_up_to_refusal s room z = let p = says s room z in (p.kept.stands, sym p.kept.whole)

pub no_empty_block : NoEmptyBlock
unfolding NoEmptyBlock
no_empty_block s room k z l =
    (sized_at (payloads_of (result_of s)) (subst Sized (sym (result_payloads s room z)) (kept_sized s room z)) k l).0

pub fewest_go : FewestGo
unfolding FewestGo frames_kept
fewest_go s room z = (
  result_short s,
  λ l.
      most_more (walked_of s).walk.heading (kept_of s) (length (frames_in (kept_of s))) (suc (frames_kept s)) (omega arith)
      (omega arith),
  subst (λ (n : ℕ). length (frames_in (kept_of s)) ≤ suc n)
      (sym (most_is (walked_of s).walk.heading (kept_of s) (says s room z).kept.sized (blocks_short s room z)))
      (chosen (λ (n : ℕ). length (frames_in (kept_of s)) ≤ suc n)
      (leb (after_head 0 + length (voice_blocks (kept_of s)) + 10) longest) (λ t. omega arith) (λ t. omega arith)),
  some_kept s room z,
)

-- ---- a sound recording

module _ (s : List ℕ) (e : (walked_of s).ending ≡ Ok tt) where
  whole : Whole s
  whole = sound_whole s e

  kept : Kept s (walked_of s).walk (left_at s (walked_of s).ending)
  kept = kept_is s (sound_short s e) whole.behind.headed

  -- all of it can be kept
  sound_kept : kept_of s ≡ payloads_of s
  unfolding kept_of
  sound_kept =
      ap (λ (x : Ending). voices_from s (after_head 0) ++ frames_at s (walked_of s).walk.at (left_at s x)) e
      ∙ append-nil (voices_from s (after_head 0)) ∙ sym whole.voices

  -- and fits
  sound_frames : frames_kept s ≡ length (frames_in (kept_of s))
  unfolding frames_kept
  sound_frames =
      let l = sound_short s e in
      let a = whole.ended.last in
      let b = kept.ends ∙ ap (λ (x : Ending). reach_of (walked_of s).walk.at (left_at s x)) e in
      most_is (walked_of s).walk.heading (kept_of s) kept.sized (omega (arith, a, b, l))
      ∙ rw (le-leb (after_head 0 + length (voice_blocks (kept_of s)) + 10) longest (omega (arith, a, b, l)))

  -- so the result is made of the same
  pub sound_result : result_of s ≡ made (walked_of s).walk.heading (payloads_of s)
  unfolding result_of voices_kept
  sound_result =
      let f = sound_frames in
      ap (made (walked_of s).walk.heading)
      (first_all (kept_of s) (frames_kept s) kept.sized (omega (arith, f)) ∙ sound_kept)

  -- and the answer is that it is sound
  sound_plan : plan_of s longest ≡ Ok (keep_of s)
  unfolding plan_of
  sound_plan =
      let n = kept.count in
      let m = whole.ended.some in
      rw (
        le-leb (length s) longest (sound_short s e),
        whole.behind.headed,
        lt-ltb 0 (length (frames_in (kept_of s))) (omega (arith, n, m)),
      )

  sound_answer : salvage_of s longest ≡ Ok Sound
  unfolding salvage_of keep_of
  sound_answer =
      ap (answer_of s) sound_plan ∙ ap (λ (x : Ending). Ok (cond (is_sound x) Sound (Mended (changes_of s)))) e

-- only a sound recording is answered so
only_sound : (s : List ℕ) → salvage_of s longest ≡ Ok Sound → (walked_of s).ending ≡ Ok tt
unfolding salvage_of keep_of
only_sound s a = go (plan_of s longest) refl
  where
    ends : (x : Ending) → (walked_of s).ending ≡ x
        → ◌≡◌ {A = Result Salvaged Unsalvaged} (Ok (cond (is_sound x) Sound (Mended (changes_of s)))) (Ok Sound)
        → (walked_of s).ending ≡ Ok tt
    ends (Ok _) i b = i
    ends (Err cause) i b = absurd (let z : ◌≡◌ {A = ℕ} 0 1 = cc in omega arith)

    go : (x : Result Keep Unsalvaged) → plan_of s longest ≡ x → (walked_of s).ending ≡ Ok tt
    go (Err why) i =
        let b : Err why ≡ Ok Sound = sym (ap (answer_of s) i) ∙ a in
        absurd (let z : ◌≡◌ {A = ℕ} 0 1 = cc in omega arith)
    go (Ok k) i =
        let p = plan_written s longest k i in
        ends (walked_of s).ending refl (sym (ap (answer_of s) (i ∙ ap Ok p.is)) ∙ a)

pub sound_unchanged : SoundUnchanged
unfolding SoundUnchanged
sound_unchanged s =
    ((only_sound s, sound_answer s), λ small e. sound_result s e ∙ sym (walked_is_made s small e).is)

pub salvaged_again : SalvagedAgain
unfolding SalvagedAgain result_of
salvaged_again s room z =
    let w = result_walked s room z in
    let e : (walked_of (result_of s)).ending ≡ Ok tt = ap (λ (x : Walked). x.ending) w in (
      sound_answer (result_of s) e,
      sound_result (result_of s) e
          ∙ ap₂ made (ap (λ (x : Walked). x.walk.heading) w) (result_payloads s room z),
    )

-- ---- where the kept blocks stand

-- those of the result, from behind its head on
module _ (s : List ℕ) (room : ℕ) (z : Salvages s room) where
  result_sound : (walked_of (result_of s)).ending ≡ Ok tt
  result_sound = ap (λ (x : Walked). x.ending) (result_walked s room z)

  result_voices : (walked_of (result_of s)).walk.voices ≡ after_head 0
  result_voices = ap (λ (x : Walked). x.walk.voices) (result_walked s room z)

  result_taken : payloads_of (result_of s) ≡ voices_from (result_of s) (after_head 0)
  result_taken = payloads_sound (result_of s) result_sound ∙ ap (voices_from (result_of s)) result_voices

  result_stand : voices_from (result_of s) (after_head 0) ≡ map (bytes_at s) (spans_from (result_of s) (after_head 0))
  unfolding voices_kept kept_of
  result_stand =
      stand (result_of s) s (walked_of s).walk.at (left_at s (walked_of s).ending) (suc (length (result_of s)))
      (after_head 0) (frames_kept s) (omega arith) (sym (says s room z).kept.stands)
      (sym result_taken ∙ result_payloads s room z)

  result_end : (walked_of (result_of s)).walk.at ≡ end_of s
  result_end = ap (λ (x : Walked). x.walk.at) (result_walked s room z)

pub kept_stands : KeptStands
unfolding KeptStands changes_of
kept_stands s room z =
    let p = says s room z in
    let w = end_within s p.short p.kept in (
      result_taken s room z ∙ result_stand s room z
          ∙ ap (map (bytes_at s))
          (sym (spans_sound (result_of s) (result_sound s room z)
          ∙ ap (spans_from (result_of s)) (result_voices s room z))),
      sym (result_end s room z),
      sym (result_end s room z),
      omega (arith, w),
    )

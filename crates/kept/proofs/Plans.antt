-- What is planned, from what a walk has passed, and what a plan says of the recording.
-- Assumes nothing.
use mathlib.Core.Path.{◌≡◌, ◌∙◌, sym, refl, ap, ap₂, subst}
use mathlib.Core.Bool.{Bool, true, false}
use mathlib.Core.List.{List, ◌++◌}
use Prim.Native.Nat.{ℕ, zero, suc, ◌+◌, ◌-◌, ◌*◌, ◌<◌, ◌≤◌}
use native.Mathlib.Omega.{arith}
use borrow.Author.Tests.{eq-eqb, ne_eqb, le-leb, lt-leb, leb-true, ltb-true, eqb-true}
use lib.Dec.{eqb, leb, ltb}
use lib.ListN.{length}
use Rattle.std.specs.Prelude.{Result, Ok, Err}
use Rattle.kept.specs.declared.Unsalvaged.{Unsalvaged}
use Rattle.laws.specs.Unless.{unless}
use Rattle.laws.proofs.Chosen.{chosen}
use Rattle.blocks.specs.Walk.{longest, after_head, walked_of}
use Rattle.blocks.specs.Frames.{voices_from, frames_in}
use Rattle.blocks.specs.declared.Walked.{Walked}
use Rattle.blocks.proofs.Walks.{step_further, walked_keeps}
use Rattle.kept.specs.Keeping.{left_at, frames_at, kept_of, first_frames, frames_kept, voices_kept}
use Rattle.kept.specs.Planning.{is_sound, keep_of, plan_of}
use Rattle.kept.specs.Steps.{reach_of, fewer_of, frames_by, keep_by, plan_by}
use Rattle.kept.specs.declared.Keep.{Keep}
use Rattle.kept.specs.declared.Unsalvaged.TheVariants.{TooLong, WrongBuffer, NoFrame}
use Rattle.kept.proofs.First.{first_count, first_join}
use Rattle.kept.proofs.Keeps.{at_first, left_within, Kept, kept_is}
use Rattle.kept.proofs.Most.{most_upto, most_is}

-- what `plan_by` asks: no more frames than there is room for
pub plan_room : (s : List ℕ) (w : Walked) (left : ℕ) → length s ≤ longest → w ≡ walked_of s → left ≡ left_at s w.ending
    → (18 * w.walk.frames ≤ w.walk.at) × (w.walk.at + 18 * left ≤ longest)
plan_room s w left l e f =
    subst (λ (x : Walked). (18 * x.walk.frames ≤ x.walk.at) × (x.walk.at + 18 * left ≤ longest)) (sym e)
    (room, some left (f ∙ ap (λ (x : Walked). left_at s x.ending) e))
  where
    room : 18 * (walked_of s).walk.frames ≤ (walked_of s).walk.at
    room =
        walked_keeps s (λ w. 18 * w.frames ≤ w.at) (λ w next q o. (step_further s w next o).room q) (omega arith)

    reach_frames : (at n : ℕ) → at + 18 * n ≤ reach_of at n
    reach_frames at zero = omega arith
    reach_frames at (suc n) = omega arith

    some : (n : ℕ) → n ≡ left_at s (walked_of s).ending → (walked_of s).walk.at + 18 * n ≤ longest
    some n g =
        let a = reach_frames (walked_of s).walk.at n in
        let b = left_within s l in
        let c : reach_of (walked_of s).walk.at n ≤ length s
        = subst (λ (m : ℕ). reach_of (walked_of s).walk.at m ≤ length s) (sym g) b in
        omega (arith, a, c)

-- ---- how many frames are kept

module _ (s : List ℕ) (short : length s ≤ longest) (t : Kept s (walked_of s).walk (left_at s (walked_of s).ending)) where
  -- as many as fit, from where the walk stands
  pub kept_by : frames_kept s ≡ frames_by (walked_of s).walk (left_at s (walked_of s).ending)
  unfolding frames_kept
  kept_by =
      let e = t.ends in
      let w = t.within in
      most_is (walked_of s).walk.heading (kept_of s) t.sized (omega (arith, e, w, short))
      ∙ ap₂ fewer_of t.ends t.count

  -- no more than there are
  pub kept_upto : frames_kept s ≤ length (frames_in (kept_of s))
  unfolding frames_kept
  kept_upto = most_upto (walked_of s).walk.heading (kept_of s) (length (frames_in (kept_of s)))

  -- that many
  pub kept_count : length (frames_in (voices_kept s)) ≡ frames_kept s
  unfolding voices_kept
  kept_count = first_count (kept_of s) (frames_kept s) t.sized kept_upto

  -- of the block at which the walk ends no more than are left
  pub kept_rest : frames_kept s - (walked_of s).walk.frames ≤ left_at s (walked_of s).ending
  kept_rest = let m = kept_upto in let c = t.count in omega (arith, m, c)

  -- in their blocks: those before it, and then its own
  pub kept_voices : voices_kept s
      ≡ first_frames (voices_from s (after_head 0)) (frames_kept s)
      ++ frames_at s (walked_of s).walk.at (frames_kept s - (walked_of s).walk.frames)
  unfolding voices_kept kept_of
  kept_voices =
      first_join (voices_from s (after_head 0)) (frames_at s (walked_of s).walk.at (left_at s (walked_of s).ending))
      (frames_kept s) t.voices
      ∙ ap (λ (x : List (List ℕ)). first_frames (voices_from s (after_head 0)) (frames_kept s) ++ x)
      (ap (λ (n : ℕ).
      first_frames (frames_at s (walked_of s).walk.at (left_at s (walked_of s).ending)) (frames_kept s - n))
      t.whole ∙ at_first s (walked_of s).walk.at (left_at s (walked_of s).ending) _ kept_rest)

-- ---- the returns of `planned`

module _ (s : List ℕ) (room : ℕ) where
  -- too long a recording
  pub plan_long : longest < length s → Err TooLong ≡ plan_of s room
  unfolding plan_of
  plan_long l = rw (lt-leb (length s) longest l)

  -- another buffer
  pub plan_buffer : length s ≤ longest → (room ≡ longest → ⊥) → Err WrongBuffer ≡ plan_of s room
  unfolding plan_of
  plan_buffer l n = rw (le-leb (length s) longest l, ne_eqb room longest n)

  module _ (l : length s ≤ longest) (n : room ≡ longest) where
    -- past a head: what the walk has passed is what can be kept
    headed : (walked_of s).walk.headed ≡ true
        → unless (ltb 0 ((walked_of s).walk.frames + left_at s (walked_of s).ending)) (Err NoFrame)
        (Ok (keep_by (walked_of s).walk (left_at s (walked_of s).ending) (is_sound (walked_of s).ending)))
        ≡ unless (ltb 0 (length (frames_in (kept_of s)))) (Err NoFrame) (Ok (keep_of s))
    unfolding keep_of
    headed h =
        let t = kept_is s l h in
        let e = sym (kept_by s l t) in
        ap₂ (λ (b : Bool) (k : Keep). unless b (Err NoFrame) (Ok k)) (ap (ltb 0) (sym t.count))
        (λ i. record {
          heading = (walked_of s).walk.heading;
          frames = e i;
          rest = e i - (walked_of s).walk.frames;
          at = (walked_of s).walk.at;
          sound = is_sound (walked_of s).ending;
        })

    by_walk : plan_by (walked_of s).walk (left_at s (walked_of s).ending) (is_sound (walked_of s).ending) ≡ plan_of s room
    unfolding plan_of
    by_walk = go (walked_of s).walk.headed refl
      where
        go : (b : Bool) → (walked_of s).walk.headed ≡ b
            → plan_by (walked_of s).walk (left_at s (walked_of s).ending) (is_sound (walked_of s).ending) ≡ plan_of s room
        go true h = rw (le-leb (length s) longest l, eq-eqb room longest n, h) (headed h)
        go false h = rw (le-leb (length s) longest l, eq-eqb room longest n, h)

    -- else what the walk comes to
    pub plan_walked : (w : Walked) → w ≡ walked_of s → (left : ℕ) (sound : Bool) → left ≡ left_at s w.ending
        → sound ≡ is_sound w.ending → plan_by w.walk left sound ≡ plan_of s room
    plan_walked w e left sound f g =
        ap₂ (plan_by w.walk) f g
        ∙ ap (λ (x : Walked). plan_by x.walk (left_at s x.ending) (is_sound x.ending)) e ∙ by_walk

-- ---- what a plan says

-- a recording of which something is to be written
pub record Planned (s : List ℕ) (room : ℕ) (k : Keep) : Type 0 where
  pub short : length s ≤ longest
  pub buffer : room ≡ longest
  pub headed : (walked_of s).walk.headed ≡ true
  pub kept : Kept s (walked_of s).walk (left_at s (walked_of s).ending)
  pub some : 0 < length (frames_in (kept_of s))
  pub is : k ≡ keep_of s

-- so it is where something is planned
pub plan_written : (s : List ℕ) (room : ℕ) (k : Keep) → plan_of s room ≡ Ok k → Planned s room k
unfolding plan_of
plan_written s room k e = subst Says e says
  where
    Says : Result Keep Unsalvaged → Type 0
    Says (Err why) = Unit
    Says (Ok k) = Planned s room k

    says : Says (plan_of s room)
    says =
        chosen Says (leb (length s) longest) (λ a.
        chosen Says (eqb room longest) (λ b.
        chosen Says (walked_of s).walk.headed (λ c.
        chosen Says (ltb 0 (length (frames_in (kept_of s)))) (λ d.
        record {
          short = leb-true (length s) longest a;
          buffer = eqb-true room longest b;
          headed = c;
          kept = kept_is s (leb-true (length s) longest a) c;
          some = ltb-true 0 (length (frames_in (kept_of s))) d;
          is = refl;
        })
        (λ d. tt)) (λ c. tt)) (λ b. tt)) (λ a. tt)

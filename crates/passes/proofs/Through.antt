-- The loops of `recording` and `listing` that go through the frames by a pass.
-- Assumes nothing.
use mathlib.Core.Path.{◌≡◌, ◌∙◌, sym, refl, ap, subst}
use mathlib.Core.List.{List}
use Prim.Native.Nat.{ℕ, zero, suc, ◌+◌, ◌-◌, ◌<◌, ◌≤◌}
use native.Mathlib.Omega.{arith}
use native.Mathlib.Nat.{add-zero, add-suc}
use native.Mathlib.Decide.{dec_lt}
use lib.ListN.{length, take}
use Rattle.std.specs.Prelude.{Ok}
use Rattle.values.specs.declared.State.{State}
use Rattle.blocks.specs.Walk.{walked_of}
use Rattle.blocks.specs.Frames.{frames_of}
use Rattle.blocks.specs.declared.Walked.{Walked}
use Rattle.passes.specs.Counted.{counts_to, counts_of}
use Rattle.passes.specs.Pass.{state_through, frame_heard, start_of, next_of, pass_at}
use Rattle.passes.specs.declared.Pass.{Pass}
use Rattle.passes.specs.declared.Step.{Step}
use Rattle.passes.proofs.Hearings.{heard_there, heard_beyond}
use Rattle.passes.proofs.Passes.{Passing, passing_start, Stepping, past, ended, passing_next}

-- ---- one turn of any loop: a step of a pass, and whether it passed a frame

-- what is known where it did: it goes on, and has passed one more of all
pub record Further (before : State) (s : List ℕ) (p : Pass) (t : Step) : Type 0 where
  pub more : p.frames < length (frames_of s)
  pub passing : Passing before s t.pass
  pub one : t.pass.frames ≡ suc p.frames

module _ {before : State} {s : List ℕ} {p : Pass} (q : Passing before s p) {t : Step} (is : t ≡ next_of s p) where
  stepping : Stepping before s p t
  stepping = subst (Stepping before s p) (sym is) (passing_next before s p q)

  -- the frame after those that were passed is heard
  pub step_hears : t.hearing ≡ frame_heard before (frames_of s) (suc p.frames)
  step_hears = go stepping
    where
      go : Stepping before s p t → t.hearing ≡ frame_heard before (frames_of s) (suc p.frames)
      go (past l h n o) = h ∙ sym (heard_there before (frames_of s) p.frames l)
      go (ended e h n) = h ∙ sym (heard_beyond before (frames_of s) p.frames (omega arith))

  -- a step that passed a frame heard the next one
  pub step_further : (t.pass.frames ≡ p.frames → ⊥) → Further before s p t
  step_further w = go stepping
    where
      go : Stepping before s p t → Further before s p t
      go (past l h n o) = record { more = l; passing = n; one = o }
      go (ended e h n) = absurd (w (ap (λ (x : Pass). x.frames) n))

  -- and where it did not, all were passed
  pub step_ended : t.pass.frames ≡ p.frames → p.frames ≡ length (frames_of s)
  step_ended w = go stepping
    where
      go : Stepping before s p t → p.frames ≡ length (frames_of s)
      go (past l h n o) = absurd (omega arith)
      go (ended e h n) = e

  -- and it stays
  pub step_same : t.pass.frames ≡ p.frames → t.pass ≡ p
  step_same w = go stepping
    where
      go : Stepping before s p t → t.pass ≡ p
      go (past l h n o) = absurd (omega arith)
      go (ended e h n) = n

  -- then all are counted
  pub all_counted : t.pass.frames ≡ p.frames → p.counts ≡ counts_of before (frames_of s)
  all_counted w = q.counts ∙ ap (counts_to before (frames_of s)) (step_ended w)

-- a pass that was started is on its way
pub on_its_way : (before : State) (s : List ℕ) {p : Pass} → p ≡ start_of before s → Passing before s p
on_its_way before s is = subst (Passing before s) (sym is) (passing_start before s)

-- at the start no frame was passed
pub none_passed : (before : State) (s : List ℕ) → (start_of before s).frames ≡ 0
unfolding start_of
none_passed before s = refl

-- and the state is the one given
pub start_state : (before : State) (s : List ℕ) → (start_of before s).state ≡ before
unfolding start_of
start_state before s = refl

-- ---- the pass after k steps

-- it has passed k frames, or all where there are not so many
record After (before : State) (s : List ℕ) (k : ℕ) (p : Pass) : Type 0 where
  passing : Passing before s p
  some : k ≤ length (frames_of s) → p.frames ≡ k
  all : length (frames_of s) ≤ k → p.frames ≡ length (frames_of s)

-- the next step of a pass after k steps makes it one after k + 1
after_next : (before : State) (s : List ℕ) (k : ℕ) (p : Pass) → After before s k p
    → After before s (suc k) (next_of s p).pass
after_next before s k p a = go (next_of s p) (passing_next before s p a.passing)
  where
    within : p.frames < length (frames_of s) → Dec (k < length (frames_of s)) → k < length (frames_of s)
    within l (yes h) = h
    within l (no w) = let e = a.all (omega arith) in absurd (omega arith)

    go : (t : Step) → Stepping before s p t → After before s (suc k) t.pass
    go t (past l h n o) =
        let h = within l (dec_lt k (length (frames_of s))) in
        let f = a.some (omega arith) in
        record { passing = n; some = λ m. omega arith; all = λ m. omega arith }
    go t (ended e h n) =
        rw n (record { passing = a.passing; some = λ m. let f = a.some (omega arith) in omega arith; all = λ m. e })

-- what a pass holds after k steps
pass_after : (before : State) (s : List ℕ) (k : ℕ) → After before s k (pass_at before s k)
unfolding pass_at
pass_after before s zero =
    record {
      passing = passing_start before s;
      some = λ m. none_passed before s;
      all =
          λ m. omega (arith, none_passed before s);
    }
pass_after before s (suc k) = after_next before s k (pass_at before s k) (pass_after before s k)

-- the next step of a pass after k steps makes it one after k + 1
pass_on : (before : State) (s : List ℕ) (k : ℕ) → (next_of s (pass_at before s k)).pass ≡ pass_at before s (suc k)
unfolding pass_at
pass_on before s k = refl

-- where a step passes no frame, the pass stays where it is, however many steps follow
pass_stays : (before : State) (s : List ℕ) (k : ℕ)
    → (next_of s (pass_at before s k)).pass.frames ≡ (pass_at before s k).frames
    → (n : ℕ) → pass_at before s k ≡ pass_at before s (k + n)
pass_stays before s k e = go
  where
    same : (next_of s (pass_at before s k)).pass ≡ pass_at before s k
    same = step_same (pass_after before s k).passing refl e

    go : (n : ℕ) → pass_at before s k ≡ pass_at before s (k + n)
    go zero = ap (pass_at before s) (sym (add-zero k))
    go (suc n) =
        sym same ∙ ap (λ (p : Pass). (next_of s p).pass) (go n) ∙ pass_on before s (k + n)
        ∙ ap (pass_at before s) (sym (add-suc k n))

module _ (before : State) (s : List ℕ) (k : ℕ) where
  -- the step after k steps hears frame k + 1
  pub pass_hears : (next_of s (pass_at before s k)).hearing ≡ frame_heard before (frames_of s) (suc k)
  pass_hears = step_hears a.passing refl ∙ go (dec_lt k (length (frames_of s)))
    where
      a : After before s k (pass_at before s k)
      a = pass_after before s k

      go : Dec (k < length (frames_of s))
          → frame_heard before (frames_of s) (suc (pass_at before s k).frames) ≡ frame_heard before (frames_of s) (suc k)
      go (yes l) = ap (λ (n : ℕ). frame_heard before (frames_of s) (suc n)) (a.some (omega arith))
      go (no w) =
          let e = a.all (omega arith) in
          heard_beyond before (frames_of s) (pass_at before s k).frames (omega arith)
          ∙ sym (heard_beyond before (frames_of s) k (omega arith))

  -- after k steps the first k frames are counted, and the state went through them
  module _ (h : k ≤ length (frames_of s)) where
    pub pass_counts : (pass_at before s k).counts ≡ counts_to before (frames_of s) k
    pass_counts = let a = pass_after before s k in a.passing.counts ∙ ap (counts_to before (frames_of s)) (a.some h)

    pub pass_state : (pass_at before s k).state ≡ state_through before (take k (frames_of s))
    pass_state =
        let a = pass_after before s k in
        a.passing.state ∙ ap (λ (n : ℕ). state_through before (take n (frames_of s))) (a.some h)

  -- after as many steps as there are bytes all frames are counted
  pub pass_all : length (frames_of s) ≤ k → (pass_at before s k).counts ≡ counts_of before (frames_of s)
  pass_all h = let a = pass_after before s k in a.passing.counts ∙ ap (counts_to before (frames_of s)) (a.all h)

-- ---- a loop of k steps

-- after n turns the pass is the one after n steps
pub record Going (before : State) (s : List ℕ) (n : ℕ) (p : Pass) : Type 0 where
  pub here : p ≡ pass_at before s n

-- before the first turn none was made
pub going_start : (before : State) (s : List ℕ) {p : Pass} → p ≡ start_of before s → Going before s 0 p
unfolding pass_at
going_start before s is = record { here = is }

module _ {before : State} {s : List ℕ} {n : ℕ} {p : Pass} (g : Going before s n p) where
  -- a turn makes one more
  pub going_on : {t : Step} → t ≡ next_of s p → Going before s (n + 1) t.pass
  going_on is =
      let m : suc n ≡ n + 1 = omega arith in
      record {
        here =
            ap (λ (t : Step). t.pass) is ∙ ap (λ (x : Pass). (next_of s x).pass) g.here ∙ pass_on before s n
            ∙ ap (pass_at before s) m;
      }

  -- a step that passes no frame shows that it is at the end
  pub going_stays : {t : Step} {k : ℕ} → t ≡ next_of s p → t.pass.frames ≡ p.frames → n ≤ k → p ≡ pass_at before s k
  going_stays {k = k} is e l =
      let m : n + (k - n) ≡ k = omega arith in
      g.here ∙ pass_stays before s n stays (k - n) ∙ ap (pass_at before s) m
    where
      stays : (next_of s (pass_at before s n)).pass.frames ≡ (pass_at before s n).frames
      stays = rw (sym g.here) (rw (sym is) e)

-- ---- a walk that was answered

-- of a sound recording
pub sound_walk : (s : List ℕ) {w : Walked} → w ≡ walked_of s → w.ending ≡ Ok tt
    → (w.walk ≡ (walked_of s).walk) × ((walked_of s).ending ≡ Ok tt)
sound_walk s is ends = (ap (λ (x : Walked). x.walk) is, sym (ap (λ (x : Walked). x.ending) is) ∙ ends)

-- What is heard of a frame, and of one frame after the other.
-- Assumes nothing.
use mathlib.Core.Path.{◌≡◌, ◌∙◌, sym, refl, ap}
use mathlib.Core.List.{List, [], ◌∷◌, ◌++◌}
use Prim.Native.Nat.{ℕ, zero, suc, ◌+◌, ◌-◌, ◌<◌, ◌≤◌}
use native.Mathlib.Omega.{arith}
use lib.ListN.{length, get_or, take, drop_of_length-le}
use lib.Seq.{drop-cons, take-suc, take_all}
use Rattle.frame.specs.Answers.{reading_of}
use Rattle.frame.specs.declared.Reading.{Reading}
use Rattle.frame.proofs.Readings.{reading_range}
use Rattle.values.specs.Values.{values_of}
use Rattle.std.specs.Prelude.{Some}
use Rattle.values.specs.declared.State.{State}
use Rattle.values.specs.declared.Values.{Values}
use Rattle.values.proofs.Laws.{sync_kept}
use Rattle.passes.specs.Counted.{last_before}
use Rattle.passes.proofs.Counting.{last_behind}
use Rattle.passes.specs.Pass.{hearing_of, no_hearing, state_through, first_heard, frame_heard}

-- what is read in a frame and its values are what is heard of it
pub heard_frame : (before : State) (f : List ℕ) {r : Reading} {v : Values} → r ≡ reading_of f
    → v ≡ values_of r.indices before
    → record { reading = r; values = v } ≡ hearing_of before f
unfolding hearing_of
heard_frame before f read valued =
    λ i. record { reading = read i; values = (valued ∙ ap (λ (x : Reading). values_of x.indices before) read) i }

-- the state after one frame more
pub through_more : (before : State) (fs : List (List ℕ)) (f : List ℕ)
    → state_through before (fs ++ (f ∷ [])) ≡ (hearing_of (state_through before fs) f).values.state
unfolding state_through
through_more before [] f = refl
through_more before (g ∷ fs) f = through_more (hearing_of before g).values.state fs f

-- after any frame the last SY is the one that is read in it
last_heard : (before : State) (f : List ℕ) → (hearing_of before f).values.state.last ≡ Some (reading_of f).indices.sy
unfolding hearing_of
last_heard before f = sync_kept (reading_of f).indices before (reading_range f).fits

module _ (before : State) (frames : List (List ℕ)) where
  -- no frame changes nothing
  pub through_none : before ≡ state_through before (take 0 frames)
  unfolding state_through
  through_none = refl

  -- the state after the first k + 1 frames
  pub through_next : (k : ℕ) → k < length frames
      → state_through before (take (suc k) frames) ≡ (hearing_of (state_through before (take k frames)) (get_or frames k [])
      ).values.state
  through_next k h =
      ap (state_through before) (take-suc frames k [] h) ∙ through_more before (take k frames) (get_or frames k [])

  -- and its last SY, heard or not
  pub through_last : (k : ℕ) → k ≤ length frames
      → (state_through before (take k frames)).last ≡ last_before before frames (k + 1)
  through_last zero h = ap (λ (t : State). t.last) (sym through_none)
  through_last (suc k) h =
      let n : k ≡ suc k - 1 = omega arith in
      ap (λ (t : State). t.last) (through_next k (omega arith))
      ∙ last_heard (state_through before (take k frames)) (get_or frames k [])
      ∙ ap (λ (i : ℕ). Some (reading_of (get_or frames i [])).indices.sy) n
      ∙ sym (last_behind before frames (suc k) (suc k + 1) (omega arith) refl)

  -- frame k + 1 where there is one
  pub heard_there : (k : ℕ) → k < length frames
      → frame_heard before frames (suc k) ≡ hearing_of (state_through before (take k frames)) (get_or frames k [])
  unfolding frame_heard
  heard_there k h = ap (first_heard (state_through before (take k frames))) (drop-cons frames k [] h)

  -- past the last there is nothing, and the state is the one after all
  pub heard_beyond : (k : ℕ) → length frames ≤ k
      → frame_heard before frames (suc k) ≡ no_hearing (state_through before frames)
  unfolding frame_heard
  heard_beyond k h =
      ap (first_heard (state_through before (take k frames))) (drop_of_length-le frames h)
      ∙ ap (λ (l : List (List ℕ)). no_hearing (state_through before l)) (take_all k frames h)

  -- before the first there is nothing
  pub heard_before_first : frame_heard before frames 0 ≡ no_hearing before
  unfolding frame_heard
  heard_before_first = refl

-- of no frames nothing is heard, and the state is as it was
pub heard_in_none : (before : State) (frames : List (List ℕ)) → length frames ≡ 0
    → frame_heard before frames 1 ≡ no_hearing before
unfolding frame_heard state_through
heard_in_none before [] e = refl
heard_in_none before (f ∷ fs) e = absurd (omega arith)

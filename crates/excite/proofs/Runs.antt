-- The register through the subframes of a frame and through the frames of a recording: the turns of `heard` and of
-- `all`, and the returns of `one`.
-- Assumes nothing.
use mathlib.Core.Path.{◌≡◌, ◌∙◌, sym, refl, ap, ap₂}
use mathlib.Core.List.{List}
use Prim.Native.Nat.{ℕ, suc, ◌+◌, ◌*◌, ◌≤◌}
use native.Mathlib.Omega.{arith}
use native.Mathlib.Numerals.{add-one}
use borrow.Author.Tests.{eq-eqb, ne_eqb}
use lib.ListN.{get_or}
use Rattle.values.specs.Outcome.{refusal_of}
use Rattle.values.specs.Values.{fresh_state}
use Rattle.blocks.specs.Frames.{frames_of}
use Rattle.passes.specs.Pass.{start_of, next_of, pass_at}
use Rattle.passes.specs.declared.Hearing.{Hearing}
use Rattle.passes.specs.declared.Pass.{Pass}
use Rattle.passes.specs.declared.Step.{Step}
use Rattle.passes.proofs.Through.{pass_hears}
use Rattle.excitation.specs.Register.{silent_register}
use Rattle.excitation.specs.Outcome.{excited_of}
use Rattle.excitation.specs.declared.Register.{Register}
use Rattle.excite.specs.Running.{subframes_after, frame_after, register_after}

-- ---- a frame

-- the register is the one after n of the four subframes
pub record Within (delays indices : List ℕ) (before : Register) (n : ℕ) (register : Register) : Type 0 where
  pub upto : n ≤ 4
  pub is : register ≡ subframes_after delays indices before n

-- before the first it is as it came
pub within_none : (delays indices : List ℕ) (before : Register) → Within delays indices before 0 before
unfolding subframes_after
within_none delays indices before = record { upto = omega arith; is = refl }

module _ {delays indices : List ℕ} {before : Register} {n : ℕ} {register : Register}
    (w : Within delays indices before n register) where
  -- a turn makes one more
  pub within_more : suc n ≤ 4 → {r : Register}
      → r ≡ (excited_of register (get_or delays n 0) (get_or indices (4 * n + 1) 0) (get_or indices (4 * n + 2) 0)
      (get_or indices (4 * n + 3) 0) 60).register → Within delays indices before (n + 1) r
  unfolding subframes_after
  within_more h e =
      record {
        upto = omega arith;
        is =
            e
            ∙ ap (λ (x : Register). (excited_of x (get_or delays n 0) (get_or indices (4 * n + 1) 0)
            (get_or indices (4 * n + 2) 0) (get_or indices (4 * n + 3) 0) 60).register) w.is
            ∙ ap (subframes_after delays indices before) (sym (add-one n));
      }

  -- after the last all four are made
  pub within_all : 4 ≤ n → register ≡ subframes_after delays indices before 4
  within_all h =
      let e : n ≡ 4 = omega (arith, w.upto) in w.is ∙ ap (subframes_after delays indices before) e

module _ (h : Hearing) (before : Register) {number : ℕ} (is : number ≡ refusal_of h.values.outcome) where
  -- a frame that is refused leaves it
  pub frame_stays : (number ≡ 0 → ⊥) → before ≡ frame_after h before
  unfolding frame_after
  frame_stays w = rw (ne_eqb (refusal_of h.values.outcome) 0 (λ e. w (is ∙ e))) refl

  -- any other moves it four times
  pub frame_moves : number ≡ 0 → {r : Register}
      → r ≡ subframes_after h.values.delays h.reading.indices.subframes before 4 → r ≡ frame_after h before
  unfolding frame_after
  frame_moves e p = p ∙ rw (eq-eqb (refusal_of h.values.outcome) 0 (sym is ∙ e)) refl

-- ---- a recording

-- the pass and the register are those after k frames
pub record After (s : List ℕ) (k : ℕ) (pass : Pass) (register : Register) : Type 0 where
  pub pass_is : pass ≡ pass_at fresh_state s k
  pub register_is : register ≡ register_after (frames_of s) k

-- before the first the pass is at the start and the register is silent
pub after_none : (s : List ℕ) {pass : Pass} {register : Register} → pass ≡ start_of fresh_state s
    → register ≡ silent_register → After s 0 pass register
unfolding pass_at register_after
after_none s p r = record { pass_is = p; register_is = r }

-- a turn goes past one frame
pub after_more : {s : List ℕ} {k : ℕ} {pass : Pass} {register : Register} → After s k pass register → {t : Step}
    → t ≡ next_of s pass → {r : Register} → r ≡ frame_after t.hearing register → After s (k + 1) t.pass r
unfolding pass_at register_after
after_more {s} {k} a {t} is e =
    let step : t ≡ next_of s (pass_at fresh_state s k) = is ∙ ap (next_of s) a.pass_is in
    record {
      pass_is =
          ap (λ (x : Step). x.pass) step ∙ ap (pass_at fresh_state s) (sym (add-one k));
      register_is =
          e
          ∙ ap₂ frame_after (ap (λ (x : Step). x.hearing) step ∙ pass_hears fresh_state s k) a.register_is
          ∙ ap (register_after (frames_of s)) (sym (add-one k));
    }

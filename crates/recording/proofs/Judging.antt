-- What is said of a whole recording: the returns of `frame_heard`, `summarize` and `judge`.
-- Assumes nothing.
use mathlib.Core.Path.{◌≡◌, ◌∙◌, sym, refl, ap}
use mathlib.Core.List.{List, []}
use Prim.Native.Nat.{ℕ, suc, ◌-◌}
use native.Mathlib.Omega.{arith}
use lib.ListN.{length}
use Rattle.std.specs.Prelude.{Ok, Err}
use Rattle.values.specs.Values.{fresh_state}
use Rattle.values.specs.declared.State.{State}
use Rattle.blocks.specs.Walk.{walked_of}
use Rattle.blocks.specs.Frames.{frames_of}
use Rattle.blocks.specs.declared.Cause.{Cause}
use Rattle.blocks.specs.Walk.{Ending}
use Rattle.blocks.specs.declared.Walk.{Walk}
use Rattle.blocks.specs.declared.Walked.{Walked}
use Rattle.passes.specs.Counted.{counts_of}
use Rattle.passes.specs.Pass.{frame_heard, begun_at, start_of, next_of, pass_at}
use Rattle.passes.specs.declared.Counts.{Counts}
use Rattle.passes.specs.declared.Hearing.{Hearing}
use Rattle.passes.specs.declared.Pass.{Pass}
use Rattle.passes.specs.declared.Step.{Step}
use Rattle.passes.proofs.Hearings.{heard_in_none, heard_before_first}
use Rattle.passes.proofs.Passes.{frames_fit}
use Rattle.passes.proofs.Through.{start_state, pass_hears, pass_all}
use Rattle.recording.specs.Judged.{summary_of, judged_by, judged_of}
use Rattle.recording.specs.declared.Summary.{Summary}

-- ---- the return of `heard_after`

-- a pass that was started was started after its own state
pub started_own : (s : List ℕ) (fresh : State) {p : Pass} → p ≡ start_of fresh s → p ≡ start_of p.state s
started_own s fresh is =
    is ∙ ap (λ (x : State). start_of x s) (sym (ap (λ (x : Pass). x.state) is ∙ start_state fresh s))

-- the step of the pass after k frames hears the next
pub heard_next : (s : List ℕ) (k : ℕ) {fresh before : State} {p q : Pass} {t : Step} → fresh ≡ before
    → p ≡ start_of fresh s → q ≡ pass_at p.state s k → t ≡ next_of s q
    → t.hearing ≡ frame_heard before (frames_of s) (suc k)
heard_next s k {fresh} {before} {p} same is there next =
    ap (λ (x : Step). x.hearing) (next ∙ ap (next_of s) there) ∙ pass_hears p.state s k
    ∙ ap (λ (x : State). frame_heard x (frames_of s) (suc k))
    (ap (λ (x : Pass). x.state) is ∙ start_state fresh s ∙ same)

-- ---- the returns of `frame_heard`

module _ (before : State) (s : List ℕ) (k : ℕ) {h : Hearing} where
  -- there is no frame 0, as there is none in no bytes
  pub sought_none : k ≡ 0 → h ≡ frame_heard before (frames_of []) 1 → h ≡ frame_heard before (frames_of s) k
  sought_none z e =
      e ∙ heard_in_none before (frames_of []) (let f = frames_fit [] in omega arith)
      ∙ sym (heard_before_first before (frames_of s)) ∙ ap (frame_heard before (frames_of s)) (sym z)

  -- any other is the one after those before it
  pub sought : (k ≡ 0 → ⊥) → h ≡ frame_heard before (frames_of s) (suc (k - 1)) → h ≡ frame_heard before (frames_of s) k
  sought w e =
      let n : suc (k - 1) ≡ k = omega arith in
      e ∙ ap (frame_heard before (frames_of s)) n

-- ---- the return of `summarize`, and those of `judge`

-- after as many steps as there are bytes the counts are those of all frames
pub all_summed : (s : List ℕ) (w : Walk) {at : ℕ} {fresh before : State} {p q : Pass} → fresh ≡ before
    → p ≡ begun_at at fresh → q ≡ pass_at p.state s (length s)
    → summary_of w q.counts ≡ summary_of w (counts_of before (frames_of s))
all_summed s w {fresh = fresh} {p = p} same begun is =
    ap (summary_of w)
    (ap (λ (x : Pass). x.counts) is ∙ pass_all p.state s (length s) (let f = frames_fit s in omega arith)
    ∙ ap (λ (x : State). counts_of x (frames_of s)) (ap (λ (x : Pass). x.state) begun ∙ same))

module _ (s : List ℕ) {w : Walked} (is : w ≡ walked_of s) where
  judged : (e : Ending) → w.ending ≡ e → {c : Counts} → c ≡ counts_of fresh_state (frames_of s)
      → judged_by e (summary_of w.walk c) ≡ judged_of s
  unfolding judged_of
  judged e ends {c} counted =
      ap (λ (x : Ending). judged_by x (summary_of w.walk c)) (sym ends)
      ∙ ap (λ (x : Counts). judged_by w.ending (summary_of w.walk x)) counted
      ∙ ap (λ (x : Walked). judged_by x.ending (summary_of x.walk (counts_of fresh_state (frames_of s)))) is

  -- a refused walk is judged so
  pub judge_refused : {cause : Cause} → w.ending ≡ Err cause → Err cause ≡ judged_of s
  judge_refused {cause} ends = judged (Err cause) ends refl

  -- a sound one is judged by its walk and the counts of its frames
  pub judge_sound : w.ending ≡ Ok tt → {x : Summary}
      → x ≡ summary_of w.walk (counts_of fresh_state (frames_of s)) → Ok x ≡ judged_of s
  judge_sound ends counted = ap Ok counted ∙ judged (Ok tt) ends refl

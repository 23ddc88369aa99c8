-- A pass: what it hears and counts, and that this depends on the frames so far alone.
-- Assumes nothing.
use mathlib.Core.Path.{◌≡◌, ◌∙◌, sym, ap, ap₂}
use mathlib.Core.List.{List, []}
use Prim.Native.Nat.{ℕ, zero, suc, ◌<◌, ◌≤◌}
use native.Mathlib.Omega.{arith}
use lib.ListN.{get_or, take}
use lib.Seq.{take-take, get_or-take}
use Rattle.blocks.specs.Frames.{frames_of}
use Rattle.passes.specs.Pass.{hearing_of, state_through}
use Rattle.passes.specs.declared.Hearing.{Hearing}
use Rattle.passes.proofs.Hearings.{heard_there, heard_beyond, heard_before_first}
use Rattle.passes.proofs.Through as through
use Rattle.promises.specs.Running.{StateRunsOn, CorrectionPassedOn, NothingBeyond, PassHears, PassCounts}
use Rattle.promises.specs.Running.{SoFarAlone}

pub state_runs_on : StateRunsOn
state_runs_on before s k h = heard_there before (frames_of s) k h

pub correction_passed_on : CorrectionPassedOn
unfolding hearing_of
correction_passed_on before s k h = ap (λ (x : Hearing). x.reading.correction) (heard_there before (frames_of s) k h)

pub nothing_beyond : NothingBeyond
nothing_beyond before s = (heard_before_first before (frames_of s), λ k h. heard_beyond before (frames_of s) k h)

pub pass_hears : PassHears
pass_hears before s k = through.pass_hears before s k

pub pass_counts : PassCounts
pass_counts before s k = (λ h. through.pass_counts before s k h, λ h. through.pass_all before s k h)

-- the state is the same, since it went through the same frames, and so is the frame
pub so_far_alone : SoFarAlone
so_far_alone before s t zero a b e = heard_before_first before (frames_of s)
    ∙ sym (heard_before_first before (frames_of t))
so_far_alone before s t (suc k) a b e =
    heard_there before (frames_of s) k a
    ∙ ap₂ hearing_of (ap (state_through before) passed) present
    ∙ sym (heard_there before (frames_of t) k b)
  where
    passed : take k (frames_of s) ≡ take k (frames_of t)
    passed =
        let l : k ≤ suc k = omega arith in
        sym (take-take k (suc k) (frames_of s) l) ∙ ap (take k) e ∙ take-take k (suc k) (frames_of t) l

    present : get_or (frames_of s) k [] ≡ get_or (frames_of t) k []
    present =
        let l : k < suc k = omega arith in
        sym (get_or-take (suc k) (frames_of s) k [] l) ∙ ap (λ (x : List (List ℕ)). get_or x k []) e
        ∙ get_or-take (suc k) (frames_of t) k [] l

-- Any two results that a public contract allows agree.
-- Assumes nothing.
use contract.Lifetimes.{Lfts}
use denote.Triple.Clauses.{AtExit}
use borrow.Fn.Kinds.{Dens, res_t, ended_of}
use mathlib.Core.Path.{◌≡◌, ◌∙◌, sym}
use Rattle.recording.proofs.judge.Kinds as judge
use Rattle.recording.proofs.judge.Reads as judge-reads
use Rattle.recording.proofs.frame_heard.Kinds as frame-heard
use Rattle.recording.proofs.frame_heard.Reads as frame-heard-reads

pub judge_determined : (κs : Lfts 1) (a : Dens κs judge.ps) (r₁ r₂ : (res_t judge.r κs).Denot)
    (x₁ x₂ : AtExit (ended_of 1 judge.ps judge.r) κs)
    → judge-reads.Post κs a r₁ x₁ → judge-reads.Post κs a r₂ x₂ → r₁ ≡ r₂
judge_determined κs a r₁ r₂ x₁ x₂ p q = p ∙ sym q

pub frame_heard_determined : (κs : Lfts 1) (a : Dens κs frame-heard.ps) (r₁ r₂ : (res_t frame-heard.r κs).Denot)
    (x₁ x₂ : AtExit (ended_of 1 frame-heard.ps frame-heard.r) κs)
    → frame-heard-reads.Post κs a r₁ x₁ → frame-heard-reads.Post κs a r₂ x₂ → r₁ ≡ r₂
frame_heard_determined κs a r₁ r₂ x₁ x₂ p q = p ∙ sym q

-- Any two results that a public contract allows agree: the answer, and each word of the book.
-- Assumes nothing.
use contract.Lifetimes.{Lfts}
use denote.Triple.Clauses.{AtExit}
use borrow.Fn.Kinds.{Dens, res_t, ended_of}
use mathlib.Core.Path.{◌≡◌, ◌∙◌, sym}
use Rattle.entering.proofs.enter.Kinds as enter
use Rattle.entering.proofs.enter.Reads as enter-reads
use Rattle.entering.proofs.enter_recording.Kinds as enter-recording
use Rattle.entering.proofs.enter_recording.Reads as enter-recording-reads

pub enter_determined : (κs : Lfts 1) (a : Dens κs enter.ps) (r₁ r₂ : (res_t enter.r κs).Denot)
    (x₁ x₂ : AtExit (ended_of 1 enter.ps enter.r) κs) → enter-reads.Post κs a r₁ x₁ → enter-reads.Post κs a r₂ x₂
    → (r₁ ≡ r₂) × (x₁.0.now ≡ x₂.0.now)
enter_determined κs a r₁ r₂ x₁ x₂ p q = (p.0 ∙ sym q.0, p.1 ∙ sym q.1)

pub enter_recording_determined : (κs : Lfts 2) (a : Dens κs enter-recording.ps)
    (r₁ r₂ : (res_t enter-recording.r κs).Denot) (x₁ x₂ : AtExit (ended_of 2 enter-recording.ps enter-recording.r) κs)
    → enter-recording-reads.Post κs a r₁ x₁ → enter-recording-reads.Post κs a r₂ x₂
    → (r₁ ≡ r₂) × (x₁.0.now ≡ x₂.0.now)
enter_recording_determined κs a r₁ r₂ x₁ x₂ p q = (p.0 ∙ sym q.0, p.1 ∙ sym q.1)

-- Any two results that a public contract allows agree.
-- Assumes nothing.
use contract.Lifetimes.{Lfts}
use denote.Triple.Clauses.{AtExit}
use borrow.Fn.Kinds.{Dens, res_t, ended_of}
use mathlib.Core.Path.{◌≡◌, ◌∙◌, sym}
use Rattle.packer.proofs.frame_of.Kinds as frame-of
use Rattle.packer.proofs.frame_of.Reads as frame-of-reads

pub frame_of_determined : (κs : Lfts 0) (a : Dens κs frame-of.ps) (r₁ r₂ : (res_t frame-of.r κs).Denot)
    (x₁ x₂ : AtExit (ended_of 0 frame-of.ps frame-of.r) κs)
    → frame-of-reads.Post κs a r₁ x₁ → frame-of-reads.Post κs a r₂ x₂ → r₁ ≡ r₂
frame_of_determined κs a r₁ r₂ x₁ x₂ p q = p ∙ sym q

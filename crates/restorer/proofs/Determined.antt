-- Any two results that a public contract allows agree: the answer, and each byte of the buffer.
-- Assumes nothing.
use contract.Lifetimes.{Lfts}
use denote.Triple.Clauses.{AtExit}
use borrow.Fn.Kinds.{Dens, res_t, ended_of}
use mathlib.Core.Path.{◌≡◌, ◌∙◌, sym}
use Rattle.restorer.proofs.salvage.Kinds as salvage
use Rattle.restorer.proofs.salvage.Reads as salvage-reads

pub salvage_determined : (κs : Lfts 2) (a : Dens κs salvage.ps) (r₁ r₂ : (res_t salvage.r κs).Denot)
    (x₁ x₂ : AtExit (ended_of 2 salvage.ps salvage.r) κs)
    → salvage-reads.Post κs a r₁ x₁ → salvage-reads.Post κs a r₂ x₂ → (r₁ ≡ r₂) × (x₁.1.0.now ≡ x₂.1.0.now)
salvage_determined κs a r₁ r₂ x₁ x₂ p q = (p.0 ∙ sym q.0, p.1 ∙ sym q.1)

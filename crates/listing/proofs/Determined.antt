-- Any two results that a public contract allows agree: the answer, and each byte of the buffer.
-- Assumes nothing.
use contract.Lifetimes.{Lfts}
use denote.Triple.Clauses.{AtExit}
use borrow.Fn.Kinds.{Dens, res_t, ended_of}
use mathlib.Core.Path.{◌≡◌, ◌∙◌, sym}
use Rattle.listing.proofs.list.Kinds as list
use Rattle.listing.proofs.list.Reads as list-reads

pub list_determined : (κs : Lfts 2) (a : Dens κs list.ps) (r₁ r₂ : (res_t list.r κs).Denot)
    (x₁ x₂ : AtExit (ended_of 2 list.ps list.r) κs)
    → list-reads.Post κs a r₁ x₁ → list-reads.Post κs a r₂ x₂ → (r₁ ≡ r₂) × (x₁.1.0.now ≡ x₂.1.0.now)
list_determined κs a r₁ r₂ x₁ x₂ p q = (p.0 ∙ sym q.0, p.1 ∙ sym q.1)

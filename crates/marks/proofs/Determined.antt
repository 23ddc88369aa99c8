-- Any two results that a public contract allows agree.
-- Assumes nothing.
use mathlib.Core.Path.{◌≡◌, ◌∙◌, sym}
use contract.Lifetimes.{Lfts}
use denote.Triple.Clauses.{AtExit}
use borrow.Fn.Kinds.{Dens, res_t, ended_of}
use Rattle.marks.proofs.mark_of.Kinds as mark
use Rattle.marks.proofs.mark_of.Reads as mark-reads

pub mark_of_determined : (κs : Lfts 0) (a : Dens κs mark.ps) (r₁ r₂ : (res_t mark.r κs).Denot)
    (x₁ x₂ : AtExit (ended_of 0 mark.ps mark.r) κs)
    → mark-reads.Post κs a r₁ x₁ → mark-reads.Post κs a r₂ x₂ → r₁ ≡ r₂
mark_of_determined κs a r₁ r₂ x₁ x₂ p q = p ∙ sym q

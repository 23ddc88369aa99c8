-- Any two results that a public contract allows agree.
-- Assumes nothing.
use contract.Lifetimes.{Lfts}
use denote.Triple.Clauses.{AtExit}
use borrow.Fn.Kinds.{Dens, res_t, ended_of}
use mathlib.Core.Path.{◌≡◌, ◌∙◌, sym}
use Rattle.steps.proofs.next.Kinds as next
use Rattle.steps.proofs.next.Reads as next-reads

pub next_determined : (κs : Lfts 1) (a : Dens κs next.ps) (r₁ r₂ : (res_t next.r κs).Denot)
    (x₁ x₂ : AtExit (ended_of 1 next.ps next.r) κs)
    → next-reads.Post κs a r₁ x₁ → next-reads.Post κs a r₂ x₂ → r₁ ≡ r₂
next_determined κs a r₁ r₂ x₁ x₂ p q = p ∙ sym q

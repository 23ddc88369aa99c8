-- Any two results that a public contract allows agree.
-- Assumes nothing.
use contract.Lifetimes.{Lfts}
use denote.Triple.Clauses.{AtExit}
use borrow.Fn.Kinds.{Dens, res_t, ended_of}
use mathlib.Core.Path.{◌≡◌, ◌∙◌, sym}
use Rattle.decoder.proofs.values_of.Kinds as values_of
use Rattle.decoder.proofs.values_of.Reads as values-of-reads

pub values_of_determined : (κs : Lfts 0) (a : Dens κs values_of.ps) (r₁ r₂ : (res_t values_of.r κs).Denot)
    (x₁ x₂ : AtExit (ended_of 0 values_of.ps values_of.r) κs) → values-of-reads.Post κs a r₁ x₁
    → values-of-reads.Post κs a r₂ x₂ → r₁ ≡ r₂
values_of_determined κs a r₁ r₂ x₁ x₂ p q = p ∙ sym q

-- Any two results that a public contract allows agree.
-- Assumes nothing.
use contract.Lifetimes.{Lfts}
use denote.Triple.Clauses.{AtExit}
use borrow.Fn.Kinds.{Dens, res_t, ended_of}
use mathlib.Core.Path.{◌≡◌, ◌∙◌, sym}
use Rattle.heard.proofs.heard_values.Kinds as heard-values
use Rattle.heard.proofs.heard_values.Reads as heard-values-reads

pub heard_values_determined : (κs : Lfts 0) (a : Dens κs heard-values.ps) (r₁ r₂ : (res_t heard-values.r κs).Denot)
    (x₁ x₂ : AtExit (ended_of 0 heard-values.ps heard-values.r) κs) → heard-values-reads.Post κs a r₁ x₁
    → heard-values-reads.Post κs a r₂ x₂ → r₁ ≡ r₂
heard_values_determined κs a r₁ r₂ x₁ x₂ p q = p ∙ sym q

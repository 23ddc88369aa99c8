-- Each contract determines the answer: any two results that it allows are equal.
-- Assumes nothing.
use mathlib.Core.Path.{◌≡◌, ◌∙◌, sym}
use contract.Lifetimes.{Lfts}
use denote.Triple.Clauses.{AtExit}
use borrow.Fn.Kinds.{Dens, res_t, ended_of}
use Rattle.averages.proofs.averages.Kinds as averages
use Rattle.averages.proofs.averages.Reads as averages-reads

pub averages_determined : (κs : Lfts 0) (a : Dens κs averages.ps) (r₁ r₂ : (res_t averages.r κs).Denot)
    (x₁ x₂ : AtExit (ended_of 0 averages.ps averages.r) κs)
    → averages-reads.Post κs a r₁ x₁ → averages-reads.Post κs a r₂ x₂ → r₁ ≡ r₂
averages_determined κs a r₁ r₂ x₁ x₂ p q = p ∙ sym q

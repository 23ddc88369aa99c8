-- Any two answers that a public function's contract allows are the same.
-- Assumes nothing.
use mathlib.Core.Path.{◌≡◌, ◌∙◌, sym}
use contract.Lifetimes.{Lfts}
use denote.Triple.Clauses.{AtExit}
use borrow.Fn.Kinds.{Dens, res_t, ended_of}
use Rattle.mixing.proofs.element.Kinds as element
use Rattle.mixing.proofs.element.Reads as element-reads

pub element_determined : (κs : Lfts 0) (a : Dens κs element.ps) (r₁ r₂ : (res_t element.r κs).Denot)
    (x₁ x₂ : AtExit (ended_of 0 element.ps element.r) κs)
    → element-reads.Post κs a r₁ x₁ → element-reads.Post κs a r₂ x₂ → r₁ ≡ r₂
element_determined κs a r₁ r₂ x₁ x₂ p q = p ∙ sym q

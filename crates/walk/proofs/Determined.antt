-- Any two results that a public contract allows agree. Assumes nothing.
use contract.Lifetimes.{Lfts}
use denote.Triple.Clauses.{AtExit}
use borrow.Fn.Kinds.{Dens, res_t, ended_of}
use mathlib.Core.Path.{◌≡◌, ◌∙◌, sym}
use Rattle.walk.proofs.walk_through.Kinds as walk_Through
use Rattle.walk.proofs.walk_through.Reads as walk-through-reads

pub walk_through_determined : (κs : Lfts 1) (a : Dens κs walk_Through.ps) (r₁ r₂ : (res_t walk_Through.r κs).Denot)
    (x₁ x₂ : AtExit (ended_of 1 walk_Through.ps walk_Through.r) κs) → walk-through-reads.Post κs a r₁ x₁
    → walk-through-reads.Post κs a r₂ x₂ → r₁ ≡ r₂
walk_through_determined κs a r₁ r₂ x₁ x₂ p q = p ∙ sym q

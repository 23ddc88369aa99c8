-- Any two results that a public contract allows agree.
-- Assumes nothing.
use contract.Lifetimes.{Lfts}
use denote.Triple.Clauses.{AtExit}
use borrow.Fn.Kinds.{Dens, res_t, ended_of}
use mathlib.Core.Path.{◌≡◌, ◌∙◌, sym}
use Rattle.salvage.proofs.answer.Kinds as answer
use Rattle.salvage.proofs.answer.Reads as answer-reads

pub answer_determined : (κs : Lfts 0) (a : Dens κs answer.ps) (r₁ r₂ : (res_t answer.r κs).Denot)
    (x₁ x₂ : AtExit (ended_of 0 answer.ps answer.r) κs)
    → answer-reads.Post κs a r₁ x₁ → answer-reads.Post κs a r₂ x₂ → r₁ ≡ r₂
answer_determined κs a r₁ r₂ x₁ x₂ p q = p ∙ sym q

-- Any two answers that a public function's contract allows are the same.
-- Assumes nothing.
use mathlib.Core.Path.{◌≡◌, ◌∙◌, sym}
use contract.Lifetimes.{Lfts}
use denote.Triple.Clauses.{AtExit}
use borrow.Fn.Kinds.{Dens, res_t, ended_of}
use Rattle.coder.proofs.codes.Kinds as codes
use Rattle.coder.proofs.codes.Reads as codes-reads

pub codes_determined : (κs : Lfts 0) (a : Dens κs codes.ps) (r₁ r₂ : (res_t codes.r κs).Denot)
    (x₁ x₂ : AtExit (ended_of 0 codes.ps codes.r) κs)
    → codes-reads.Post κs a r₁ x₁ → codes-reads.Post κs a r₂ x₂ → r₁ ≡ r₂
codes_determined κs a r₁ r₂ x₁ x₂ p q = p ∙ sym q

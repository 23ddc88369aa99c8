-- Any two answers that a public function's contract allows are the same.
-- Assumes nothing.
use mathlib.Core.Path.{◌≡◌, ◌∙◌, sym}
use contract.Lifetimes.{Lfts}
use denote.Triple.Clauses.{AtExit}
use borrow.Fn.Kinds.{Dens, res_t, ended_of}
use Rattle.meanings.proofs.meaning.Kinds as meaning
use Rattle.meanings.proofs.meaning.Reads as meaning-reads

pub meaning_determined : (κs : Lfts 0) (a : Dens κs meaning.ps) (r₁ r₂ : (res_t meaning.r κs).Denot)
    (x₁ x₂ : AtExit (ended_of 0 meaning.ps meaning.r) κs) → meaning-reads.Post κs a r₁ x₁ → meaning-reads.Post κs a r₂ x₂
    → r₁ ≡ r₂
meaning_determined κs a r₁ r₂ x₁ x₂ p q = p ∙ sym q

-- Any two results that a public contract allows agree.
-- Assumes nothing.
use contract.Lifetimes.{Lfts}
use denote.Triple.Clauses.{AtExit}
use borrow.Fn.Kinds.{Dens, res_t, ended_of}
use mathlib.Core.Path.{◌≡◌, ◌∙◌, sym}
use Rattle.asking.proofs.ask.Kinds as ask
use Rattle.asking.proofs.ask.Reads as ask-reads
use Rattle.asking.proofs.row_of.Kinds as row_of
use Rattle.asking.proofs.row_of.Reads as row-of-reads

pub ask_determined : (κs : Lfts 1) (a : Dens κs ask.ps) (r₁ r₂ : (res_t ask.r κs).Denot)
    (x₁ x₂ : AtExit (ended_of 1 ask.ps ask.r) κs) → ask-reads.Post κs a r₁ x₁ → ask-reads.Post κs a r₂ x₂ → r₁ ≡ r₂
ask_determined κs a r₁ r₂ x₁ x₂ p q = p ∙ sym q

pub row_of_determined : (κs : Lfts 1) (a : Dens κs row_of.ps) (r₁ r₂ : (res_t row_of.r κs).Denot)
    (x₁ x₂ : AtExit (ended_of 1 row_of.ps row_of.r) κs) → row-of-reads.Post κs a r₁ x₁ → row-of-reads.Post κs a r₂ x₂
    → r₁ ≡ r₂
row_of_determined κs a r₁ r₂ x₁ x₂ p q = p ∙ sym q

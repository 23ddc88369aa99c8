-- Any two results that a public contract allows agree: the verdict, and each number that is told.
-- Assumes nothing.
use mathlib.Core.Path.{◌≡◌, ◌∙◌, sym}
use contract.Lifetimes.{Lfts}
use denote.Triple.Clauses.{AtExit}
use borrow.Fn.Kinds.{Dens, res_t, ended_of}
use Rattle.verdicts.proofs.minus.Kinds as minus
use Rattle.verdicts.proofs.minus.Reads as minus-reads
use Rattle.verdicts.proofs.tell.Kinds as tell
use Rattle.verdicts.proofs.tell.Reads as tell-reads

pub tell_determined : (κs : Lfts 2) (a : Dens κs tell.ps) (r₁ r₂ : (res_t tell.r κs).Denot)
    (x₁ x₂ : AtExit (ended_of 2 tell.ps tell.r) κs)
    → tell-reads.Post κs a r₁ x₁ → tell-reads.Post κs a r₂ x₂
    → (r₁ ≡ r₂) × (x₁.1.0.now ≡ x₂.1.0.now)
tell_determined κs a r₁ r₂ x₁ x₂ p q =
    (p.0 ∙ sym q.0, p.1 ∙ sym q.1)

pub minus_determined : (κs : Lfts 0) (a : Dens κs minus.ps) (r₁ r₂ : (res_t minus.r κs).Denot)
    (x₁ x₂ : AtExit (ended_of 0 minus.ps minus.r) κs)
    → minus-reads.Post κs a r₁ x₁ → minus-reads.Post κs a r₂ x₂ → r₁ ≡ r₂
minus_determined κs a r₁ r₂ x₁ x₂ p q = p ∙ sym q

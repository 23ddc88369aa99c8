-- Any two results that a public contract allows agree. Assumes nothing.
use contract.Lifetimes.{Lfts}
use denote.Triple.Clauses.{AtExit}
use borrow.Fn.Kinds.{Dens, res_t, ended_of}
use mathlib.Core.Path.{◌≡◌, ◌∙◌, sym}
use Rattle.refusals.proofs.refusal_number.Kinds as refusal-number
use Rattle.refusals.proofs.refusal_number.Reads as refusal-number-reads
use Rattle.refusals.proofs.tells.Kinds as tells
use Rattle.refusals.proofs.tells.Reads as tells-reads

pub refusal_number_determined : (κs : Lfts 0) (a : Dens κs refusal-number.ps)
    (r₁ r₂ : (res_t refusal-number.r κs).Denot)
    (x₁ x₂ : AtExit (ended_of 0 refusal-number.ps refusal-number.r) κs) → refusal-number-reads.Post κs a r₁ x₁
    → refusal-number-reads.Post κs a r₂ x₂ → r₁ ≡ r₂
refusal_number_determined κs a r₁ r₂ x₁ x₂ p q = p ∙ sym q

pub tells_determined : (κs : Lfts 0) (a : Dens κs tells.ps) (r₁ r₂ : (res_t tells.r κs).Denot)
    (x₁ x₂ : AtExit (ended_of 0 tells.ps tells.r) κs) → tells-reads.Post κs a r₁ x₁ → tells-reads.Post κs a r₂ x₂
    → r₁ ≡ r₂
tells_determined κs a r₁ r₂ x₁ x₂ p q = p ∙ sym q

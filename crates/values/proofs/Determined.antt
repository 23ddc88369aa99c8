-- Any two results that a public contract allows agree.
-- Assumes nothing.
use contract.Lifetimes.{Lfts}
use denote.Triple.Clauses.{AtExit}
use borrow.Fn.Kinds.{Dens, res_t, ended_of}
use mathlib.Core.Path.{◌≡◌, ◌∙◌, sym}
use Rattle.values.proofs.State.fresh.Kinds as fresh
use Rattle.values.proofs.State.fresh.Reads as fresh-reads
use Rattle.values.proofs.Outcome.refusal_number.Kinds as refusal-number
use Rattle.values.proofs.Outcome.refusal_number.Reads as refusal-number-reads
use Rattle.values.proofs.Values.refused.Kinds as refused
use Rattle.values.proofs.Values.refused.Reads as refused-reads
use Rattle.values.proofs.Values.nothing.Kinds as nothing
use Rattle.values.proofs.Values.nothing.Reads as nothing-reads

pub fresh_determined : (κs : Lfts 0) (a : Dens κs fresh.ps) (r₁ r₂ : (res_t fresh.r κs).Denot)
    (x₁ x₂ : AtExit (ended_of 0 fresh.ps fresh.r) κs) → fresh-reads.Post κs a r₁ x₁ → fresh-reads.Post κs a r₂ x₂
    → r₁ ≡ r₂
fresh_determined κs a r₁ r₂ x₁ x₂ p q = p ∙ sym q

pub nothing_determined : (κs : Lfts 0) (a : Dens κs nothing.ps) (r₁ r₂ : (res_t nothing.r κs).Denot)
    (x₁ x₂ : AtExit (ended_of 0 nothing.ps nothing.r) κs) → nothing-reads.Post κs a r₁ x₁ → nothing-reads.Post κs a r₂ x₂
    → r₁ ≡ r₂
nothing_determined κs a r₁ r₂ x₁ x₂ p q = p ∙ sym q

pub refusal_number_determined : (κs : Lfts 0) (a : Dens κs refusal-number.ps) (r₁ r₂ : (res_t refusal-number.r κs).Denot)
    (x₁ x₂ : AtExit (ended_of 0 refusal-number.ps refusal-number.r) κs)
    → refusal-number-reads.Post κs a r₁ x₁ → refusal-number-reads.Post κs a r₂ x₂ → r₁ ≡ r₂
refusal_number_determined κs a r₁ r₂ x₁ x₂ p q = p ∙ sym q

pub refused_determined : (κs : Lfts 0) (a : Dens κs refused.ps) (r₁ r₂ : (res_t refused.r κs).Denot)
    (x₁ x₂ : AtExit (ended_of 0 refused.ps refused.r) κs) → refused-reads.Post κs a r₁ x₁ → refused-reads.Post κs a r₂ x₂
    → r₁ ≡ r₂
refused_determined κs a r₁ r₂ x₁ x₂ p q = p ∙ sym q

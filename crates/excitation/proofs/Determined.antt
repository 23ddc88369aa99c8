-- Any two results that a public contract allows agree.
-- Assumes nothing.
use contract.Lifetimes.{Lfts}
use denote.Triple.Clauses.{AtExit}
use borrow.Fn.Kinds.{Dens, res_t, ended_of}
use mathlib.Core.Path.{◌≡◌, ◌∙◌, sym}
use Rattle.excitation.proofs.Register.silent.Kinds as silent
use Rattle.excitation.proofs.Register.silent.Reads as silent-reads
use Rattle.excitation.proofs.Refusal.refusal_number.Kinds as refusal-number
use Rattle.excitation.proofs.Refusal.refusal_number.Reads as refusal-number-reads

pub silent_determined : (κs : Lfts 0) (a : Dens κs silent.ps) (r₁ r₂ : (res_t silent.r κs).Denot)
    (x₁ x₂ : AtExit (ended_of 0 silent.ps silent.r) κs)
    → silent-reads.Post κs a r₁ x₁ → silent-reads.Post κs a r₂ x₂ → r₁ ≡ r₂
silent_determined κs a r₁ r₂ x₁ x₂ p q = p ∙ sym q

pub refusal_number_determined : (κs : Lfts 0) (a : Dens κs refusal-number.ps) (r₁ r₂ : (res_t refusal-number.r κs).Denot)
    (x₁ x₂ : AtExit (ended_of 0 refusal-number.ps refusal-number.r) κs)
    → refusal-number-reads.Post κs a r₁ x₁ → refusal-number-reads.Post κs a r₂ x₂ → r₁ ≡ r₂
refusal_number_determined κs a r₁ r₂ x₁ x₂ p q = p ∙ sym q

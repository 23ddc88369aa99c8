-- Any two results that a public function's contract allows for the same input agree.
-- Assumes nothing.
use mathlib.Core.Path.{◌≡◌, ◌∙◌, sym}
use contract.Lifetimes.{Lfts}
use denote.Triple.Clauses.{AtExit}
use borrow.Fn.Kinds.{Dens, res_t, ended_of}
use Rattle.parity.proofs.number_of.Kinds as number
use Rattle.parity.proofs.number_of.Reads as number-reads
use Rattle.parity.proofs.correction_of.Kinds as correction
use Rattle.parity.proofs.correction_of.Reads as correction-reads
use Rattle.parity.proofs.number_for.Kinds as for
use Rattle.parity.proofs.number_for.Reads as for-reads
use Rattle.parity.proofs.mend.Kinds as mend
use Rattle.parity.proofs.mend.Reads as mend-reads

pub number_of_determined : (κs : Lfts 0) (a : Dens κs number.ps) (r₁ r₂ : (res_t number.r κs).Denot)
    (x₁ x₂ : AtExit (ended_of 0 number.ps number.r) κs)
    → number-reads.Post κs a r₁ x₁ → number-reads.Post κs a r₂ x₂ → r₁ ≡ r₂
number_of_determined κs a r₁ r₂ x₁ x₂ p q = p ∙ sym q

pub mend_determined : (κs : Lfts 0) (a : Dens κs mend.ps) (r₁ r₂ : (res_t mend.r κs).Denot)
    (x₁ x₂ : AtExit (ended_of 0 mend.ps mend.r) κs)
    → mend-reads.Post κs a r₁ x₁ → mend-reads.Post κs a r₂ x₂ → r₁ ≡ r₂
mend_determined κs a r₁ r₂ x₁ x₂ p q = p ∙ sym q

pub correction_of_determined : (κs : Lfts 0) (a : Dens κs correction.ps) (r₁ r₂ : (res_t correction.r κs).Denot)
    (x₁ x₂ : AtExit (ended_of 0 correction.ps correction.r) κs)
    → correction-reads.Post κs a r₁ x₁ → correction-reads.Post κs a r₂ x₂ → r₁ ≡ r₂
correction_of_determined κs a r₁ r₂ x₁ x₂ p q = p ∙ sym q

pub number_for_determined : (κs : Lfts 0) (a : Dens κs for.ps) (r₁ r₂ : (res_t for.r κs).Denot)
    (x₁ x₂ : AtExit (ended_of 0 for.ps for.r) κs)
    → for-reads.Post κs a r₁ x₁ → for-reads.Post κs a r₂ x₂ → r₁ ≡ r₂
number_for_determined κs a r₁ r₂ x₁ x₂ p q = p ∙ sym q

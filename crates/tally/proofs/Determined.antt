-- Any two results that a public contract allows agree: the answer, and each word of the book.
-- Assumes nothing.
use contract.Lifetimes.{Lfts}
use denote.Triple.Clauses.{AtExit}
use borrow.Fn.Kinds.{Dens, res_t, ended_of}
use mathlib.Core.Path.{◌≡◌, ◌∙◌, sym}
use Rattle.tally.proofs.Refusal.refusal_number.Kinds as refusal-number
use Rattle.tally.proofs.Refusal.refusal_number.Reads as refusal-number-reads
use Rattle.tally.proofs.clear.Kinds as clear
use Rattle.tally.proofs.clear.Reads as clear_reads
use Rattle.tally.proofs.entries.Kinds as entries
use Rattle.tally.proofs.entries.Reads as entries-reads
use Rattle.tally.proofs.total.Kinds as total
use Rattle.tally.proofs.total.Reads as total-reads

pub refusal_number_determined : (κs : Lfts 0) (a : Dens κs refusal-number.ps)
    (r₁ r₂ : (res_t refusal-number.r κs).Denot) (x₁ x₂ : AtExit (ended_of 0 refusal-number.ps refusal-number.r) κs)
    → refusal-number-reads.Post κs a r₁ x₁ → refusal-number-reads.Post κs a r₂ x₂ → r₁ ≡ r₂
refusal_number_determined κs a r₁ r₂ x₁ x₂ p q = p ∙ sym q

pub clear_determined : (κs : Lfts 1) (a : Dens κs clear.ps) (r₁ r₂ : (res_t clear.r κs).Denot)
    (x₁ x₂ : AtExit (ended_of 1 clear.ps clear.r) κs) → clear_reads.Post κs a r₁ x₁ → clear_reads.Post κs a r₂ x₂
    → x₁.0.now ≡ x₂.0.now
clear_determined κs a r₁ r₂ x₁ x₂ p q = p ∙ sym q

pub entries_determined : (κs : Lfts 1) (a : Dens κs entries.ps) (r₁ r₂ : (res_t entries.r κs).Denot)
    (x₁ x₂ : AtExit (ended_of 1 entries.ps entries.r) κs) → entries-reads.Post κs a r₁ x₁
    → entries-reads.Post κs a r₂ x₂ → r₁ ≡ r₂
entries_determined κs a r₁ r₂ x₁ x₂ p q = p ∙ sym q

pub total_determined : (κs : Lfts 1) (a : Dens κs total.ps) (r₁ r₂ : (res_t total.r κs).Denot)
    (x₁ x₂ : AtExit (ended_of 1 total.ps total.r) κs) → total-reads.Post κs a r₁ x₁ → total-reads.Post κs a r₂ x₂
    → r₁ ≡ r₂
total_determined κs a r₁ r₂ x₁ x₂ p q = p ∙ sym q

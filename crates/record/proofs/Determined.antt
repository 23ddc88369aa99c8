-- Any two results that a public function's contract allows for the same input agree.
-- Assumes nothing.
use mathlib.Core.Path.{◌≡◌, ◌∙◌, sym}
use contract.Lifetimes.{Lfts}
use denote.Triple.Clauses.{AtExit}
use borrow.Fn.Kinds.{Dens, res_t, ended_of}
use Rattle.record.proofs.Record.too_large.Kinds as too_large
use Rattle.record.proofs.Record.too_large.Reads as too-large-reads
use Rattle.record.proofs.Record.by_field.Kinds as by_field
use Rattle.record.proofs.Record.by_field.Reads as by-field-reads

pub by_field_determined : (κs : Lfts 0) (a : Dens κs by_field.ps) (r₁ r₂ : (res_t by_field.r κs).Denot)
    (x₁ x₂ : AtExit (ended_of 0 by_field.ps by_field.r) κs)
    → by-field-reads.Post κs a r₁ x₁ → by-field-reads.Post κs a r₂ x₂ → r₁ ≡ r₂
by_field_determined κs a r₁ r₂ x₁ x₂ p q = p ∙ sym q

pub too_large_determined : (κs : Lfts 0) (a : Dens κs too_large.ps) (r₁ r₂ : (res_t too_large.r κs).Denot)
    (x₁ x₂ : AtExit (ended_of 0 too_large.ps too_large.r) κs)
    → too-large-reads.Post κs a r₁ x₁ → too-large-reads.Post κs a r₂ x₂ → r₁ ≡ r₂
too_large_determined κs a r₁ r₂ x₁ x₂ p q = p ∙ sym q

-- Any two results that a public function's contract allows for the same input agree.
-- Assumes nothing.
use mathlib.Core.Path.{◌≡◌, ◌∙◌, sym}
use contract.Lifetimes.{Lfts}
use denote.Triple.Clauses.{AtExit}
use borrow.Fn.Kinds.{Dens, res_t, ended_of}
use Rattle.frame.proofs.table.Kinds as table
use Rattle.frame.proofs.table.Reads as table-reads
use Rattle.frame.proofs.Reading.nothing.Kinds as nothing
use Rattle.frame.proofs.Reading.nothing.Reads as nothing-reads

pub table_determined : (κs : Lfts 0) (a : Dens κs table.ps) (r₁ r₂ : (res_t table.r κs).Denot)
    (x₁ x₂ : AtExit (ended_of 0 table.ps table.r) κs)
    → table-reads.Post κs a r₁ x₁ → table-reads.Post κs a r₂ x₂ → r₁ ≡ r₂
table_determined κs a r₁ r₂ x₁ x₂ p q = p ∙ sym q

pub nothing_determined : (κs : Lfts 0) (a : Dens κs nothing.ps) (r₁ r₂ : (res_t nothing.r κs).Denot)
    (x₁ x₂ : AtExit (ended_of 0 nothing.ps nothing.r) κs)
    → nothing-reads.Post κs a r₁ x₁ → nothing-reads.Post κs a r₂ x₂ → r₁ ≡ r₂
nothing_determined κs a r₁ r₂ x₁ x₂ p q = p ∙ sym q

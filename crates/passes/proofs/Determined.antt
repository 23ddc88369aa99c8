-- Any two results that a public contract allows agree.
-- Assumes nothing.
use contract.Lifetimes.{Lfts}
use denote.Triple.Clauses.{AtExit}
use borrow.Fn.Kinds.{Dens, res_t, ended_of}
use mathlib.Core.Path.{◌≡◌, ◌∙◌, sym}
use Rattle.passes.proofs.start.Kinds as start
use Rattle.passes.proofs.start.Reads as start-reads
use Rattle.passes.proofs.begin.Kinds as begin
use Rattle.passes.proofs.begin.Reads as begin-reads

pub start_determined : (κs : Lfts 1) (a : Dens κs start.ps) (r₁ r₂ : (res_t start.r κs).Denot)
    (x₁ x₂ : AtExit (ended_of 1 start.ps start.r) κs)
    → start-reads.Post κs a r₁ x₁ → start-reads.Post κs a r₂ x₂ → r₁ ≡ r₂
start_determined κs a r₁ r₂ x₁ x₂ p q = p ∙ sym q

pub begin_determined : (κs : Lfts 0) (a : Dens κs begin.ps) (r₁ r₂ : (res_t begin.r κs).Denot)
    (x₁ x₂ : AtExit (ended_of 0 begin.ps begin.r) κs)
    → begin-reads.Post κs a r₁ x₁ → begin-reads.Post κs a r₂ x₂ → r₁ ≡ r₂
begin_determined κs a r₁ r₂ x₁ x₂ p q = p ∙ sym q

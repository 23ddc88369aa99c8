-- Any two results that a public function's contract allows agree.
-- Assumes nothing.
use mathlib.Core.Path.{◌≡◌, ◌∙◌, sym}
use contract.Lifetimes.{Lfts}
use denote.Triple.Clauses.{AtExit}
use borrow.Fn.Kinds.{Dens, res_t, ended_of}
use Rattle.nearest.proofs.nearest_cg.Kinds as nearest-cg
use Rattle.nearest.proofs.nearest_cg.Reads as nearest-cg-reads
use Rattle.nearest.proofs.nearest_pg.Kinds as nearest-pg
use Rattle.nearest.proofs.nearest_pg.Reads as nearest-pg-reads

pub nearest_cg_determined : (κs : Lfts 0) (a : Dens κs nearest-cg.ps) (r₁ r₂ : (res_t nearest-cg.r κs).Denot)
    (x₁ x₂ : AtExit (ended_of 0 nearest-cg.ps nearest-cg.r) κs) → nearest-cg-reads.Post κs a r₁ x₁
    → nearest-cg-reads.Post κs a r₂ x₂ → r₁ ≡ r₂
nearest_cg_determined κs a r₁ r₂ x₁ x₂ p q = p ∙ sym q

pub nearest_pg_determined : (κs : Lfts 0) (a : Dens κs nearest-pg.ps) (r₁ r₂ : (res_t nearest-pg.r κs).Denot)
    (x₁ x₂ : AtExit (ended_of 0 nearest-pg.ps nearest-pg.r) κs) → nearest-pg-reads.Post κs a r₁ x₁
    → nearest-pg-reads.Post κs a r₂ x₂ → r₁ ≡ r₂
nearest_pg_determined κs a r₁ r₂ x₁ x₂ p q = p ∙ sym q

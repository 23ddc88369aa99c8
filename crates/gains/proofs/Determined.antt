-- Any two results that a public function's contract allows agree.
-- Assumes nothing.
use mathlib.Core.Path.{◌≡◌, ◌∙◌, sym}
use contract.Lifetimes.{Lfts}
use denote.Triple.Clauses.{AtExit}
use borrow.Fn.Kinds.{Dens, res_t, ended_of}
use Rattle.gains.proofs.cg.Kinds as cg
use Rattle.gains.proofs.cg.Reads as cg-reads
use Rattle.gains.proofs.pg.Kinds as pg
use Rattle.gains.proofs.pg.Reads as pg-reads
use Rattle.gains.proofs.gain_at.Kinds as gain_at_lem
use Rattle.gains.proofs.gain_at.Reads as gain-at-reads

pub cg_determined : (κs : Lfts 0) (a : Dens κs cg.ps) (r₁ r₂ : (res_t cg.r κs).Denot)
    (x₁ x₂ : AtExit (ended_of 0 cg.ps cg.r) κs) → cg-reads.Post κs a r₁ x₁ → cg-reads.Post κs a r₂ x₂ → r₁ ≡ r₂
cg_determined κs a r₁ r₂ x₁ x₂ p q = p ∙ sym q

pub pg_determined : (κs : Lfts 0) (a : Dens κs pg.ps) (r₁ r₂ : (res_t pg.r κs).Denot)
    (x₁ x₂ : AtExit (ended_of 0 pg.ps pg.r) κs) → pg-reads.Post κs a r₁ x₁ → pg-reads.Post κs a r₂ x₂ → r₁ ≡ r₂
pg_determined κs a r₁ r₂ x₁ x₂ p q = p ∙ sym q

pub gain_at_determined : (κs : Lfts 1) (a : Dens κs gain_at_lem.ps) (r₁ r₂ : (res_t gain_at_lem.r κs).Denot)
    (x₁ x₂ : AtExit (ended_of 1 gain_at_lem.ps gain_at_lem.r) κs) → gain-at-reads.Post κs a r₁ x₁ → gain-at-reads.Post κs a r₂ x₂
    → r₁ ≡ r₂
gain_at_determined κs a r₁ r₂ x₁ x₂ p q = p ∙ sym q

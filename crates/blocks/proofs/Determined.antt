-- Any two results that a public contract allows agree. Assumes nothing.
use contract.Lifetimes.{Lfts}
use denote.Triple.Clauses.{AtExit}
use borrow.Fn.Kinds.{Dens, res_t, ended_of}
use mathlib.Core.Path.{◌≡◌, ◌∙◌, sym}
use Rattle.blocks.proofs.block_at.Kinds as block_at
use Rattle.blocks.proofs.block_at.Reads as block-at-reads

pub block_at_determined : (κs : Lfts 1) (a : Dens κs block_at.ps) (r₁ r₂ : (res_t block_at.r κs).Denot)
    (x₁ x₂ : AtExit (ended_of 1 block_at.ps block_at.r) κs) → block-at-reads.Post κs a r₁ x₁
    → block-at-reads.Post κs a r₂ x₂ → r₁ ≡ r₂
block_at_determined κs a r₁ r₂ x₁ x₂ p q = p ∙ sym q

-- Any two results that a public contract allows for the same input agree, and so do the buffers after them.
-- Assumes nothing.
use mathlib.Core.Path.{◌≡◌, ◌∙◌, sym}
use contract.Lifetimes.{Lfts}
use denote.Triple.Clauses.{AtExit}
use borrow.Fn.Kinds.{Dens, res_t, ended_of}
use Rattle.pairs.proofs.put.Kinds as put
use Rattle.pairs.proofs.put.Reads as put_reads
use Rattle.pairs.proofs.take.Kinds as take
use Rattle.pairs.proofs.take.Reads as take-reads

pub put_determined : (κs : Lfts 1) (a : Dens κs put.ps) (r₁ r₂ : (res_t put.r κs).Denot)
    (x₁ x₂ : AtExit (ended_of 1 put.ps put.r) κs)
    → put_reads.Post κs a r₁ x₁ → put_reads.Post κs a r₂ x₂ → (r₁ ≡ r₂) × (x₁.1.0.now ≡ x₂.1.0.now)
put_determined κs a r₁ r₂ x₁ x₂ p q = (p.0 ∙ sym q.0, p.1 ∙ sym q.1)

pub take_determined : (κs : Lfts 1) (a : Dens κs take.ps) (r₁ r₂ : (res_t take.r κs).Denot)
    (x₁ x₂ : AtExit (ended_of 1 take.ps take.r) κs)
    → take-reads.Post κs a r₁ x₁ → take-reads.Post κs a r₂ x₂ → r₁ ≡ r₂
take_determined κs a r₁ r₂ x₁ x₂ p q = p ∙ sym q

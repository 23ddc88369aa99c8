-- Any two results that a public contract allows agree: the answer, and each byte of the buffer.
-- Assumes nothing.
use contract.Lifetimes.{Lfts}
use denote.Triple.Clauses.{AtExit}
use borrow.Fn.Kinds.{Dens, res_t, ended_of}
use mathlib.Core.Path.{◌≡◌, ◌∙◌, sym}
use Rattle.changes.proofs.put.Kinds as put
use Rattle.changes.proofs.put.Reads as put_reads

pub put_determined : (κs : Lfts 1) (a : Dens κs put.ps) (r₁ r₂ : (res_t put.r κs).Denot)
    (x₁ x₂ : AtExit (ended_of 1 put.ps put.r) κs)
    → put_reads.Post κs a r₁ x₁ → put_reads.Post κs a r₂ x₂ → (r₁ ≡ r₂) × (x₁.0.now ≡ x₂.0.now)
put_determined κs a r₁ r₂ x₁ x₂ p q = (p.0 ∙ sym q.0, p.1 ∙ sym q.1)

-- Any two results that a public contract allows agree: the position answered, and each byte of the buffer.
-- Assumes nothing.
use contract.Lifetimes.{Lfts}
use denote.Triple.Clauses.{AtExit}
use borrow.Fn.Kinds.{Dens, res_t, ended_of}
use mathlib.Core.Path.{◌≡◌, ◌∙◌, sym}
use Rattle.ends.proofs.put_head.Kinds as put-head
use Rattle.ends.proofs.put_head.Reads as put-head-reads
use Rattle.ends.proofs.put_end.Kinds as put-end
use Rattle.ends.proofs.put_end.Reads as put-end-reads

pub put_head_determined : (κs : Lfts 1) (a : Dens κs put-head.ps) (r₁ r₂ : (res_t put-head.r κs).Denot)
    (x₁ x₂ : AtExit (ended_of 1 put-head.ps put-head.r) κs)
    → put-head-reads.Post κs a r₁ x₁ → put-head-reads.Post κs a r₂ x₂ → (r₁ ≡ r₂) × (x₁.0.now ≡ x₂.0.now)
put_head_determined κs a r₁ r₂ x₁ x₂ p q = (p.0 ∙ sym q.0, p.1 ∙ sym q.1)

pub put_end_determined : (κs : Lfts 1) (a : Dens κs put-end.ps) (r₁ r₂ : (res_t put-end.r κs).Denot)
    (x₁ x₂ : AtExit (ended_of 1 put-end.ps put-end.r) κs)
    → put-end-reads.Post κs a r₁ x₁ → put-end-reads.Post κs a r₂ x₂ → (r₁ ≡ r₂) × (x₁.0.now ≡ x₂.0.now)
put_end_determined κs a r₁ r₂ x₁ x₂ p q = (p.0 ∙ sym q.0, p.1 ∙ sym q.1)

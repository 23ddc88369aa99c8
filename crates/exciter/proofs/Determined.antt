-- Any two results that a public contract allows agree: the answer, the register, and each element of the lent buffer.
-- Assumes nothing.
use contract.Lifetimes.{Lfts}
use denote.Triple.Clauses.{AtExit}
use borrow.Fn.Kinds.{Dens, res_t, ended_of}
use mathlib.Core.Path.{◌≡◌, ◌∙◌, sym}
use Rattle.exciter.proofs.excite.Kinds as excite
use Rattle.exciter.proofs.excite.Reads as excite-reads

pub excite_determined : (κs : Lfts 2) (a : Dens κs excite.ps) (r₁ r₂ : (res_t excite.r κs).Denot)
    (x₁ x₂ : AtExit (ended_of 2 excite.ps excite.r) κs)
    → excite-reads.Post κs a r₁ x₁ → excite-reads.Post κs a r₂ x₂
    → (r₁ ≡ r₂) × (x₁.0.now ≡ x₂.0.now) × (x₁.1.1.1.1.1.0.now ≡ x₂.1.1.1.1.1.0.now)
excite_determined κs a r₁ r₂ x₁ x₂ p q =
    (p.0 ∙ sym q.0, p.1.0 ∙ sym q.1.0, p.1.1 ∙ sym q.1.1)

-- Any two results that a public function's contract allows for the same input agree, the lent bytes with them.
-- Assumes nothing.
use mathlib.Core.Path.{◌≡◌, ◌∙◌, sym}
use contract.Lifetimes.{Lfts}
use denote.Triple.Clauses.{AtExit}
use borrow.Fn.Kinds.{Dens, res_t, ended_of}
use Rattle.writer.proofs.write.Kinds as write
use Rattle.writer.proofs.write.Reads as write-reads

pub write_determined : (κs : Lfts 1) (a : Dens κs write.ps) (r₁ r₂ : (res_t write.r κs).Denot)
    (x₁ x₂ : AtExit (ended_of 1 write.ps write.r) κs)
    → write-reads.Post κs a r₁ x₁ → write-reads.Post κs a r₂ x₂ → (r₁ ≡ r₂) × (x₁.1.0.now ≡ x₂.1.0.now)
write_determined κs a r₁ r₂ x₁ x₂ p q = (p.0 ∙ sym q.0, p.1 ∙ sym q.1)

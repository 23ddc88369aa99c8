-- Any two results that a public contract allows agree.
-- Assumes nothing.
use contract.Lifetimes.{Lfts}
use denote.Triple.Clauses.{AtExit}
use borrow.Fn.Kinds.{Dens, res_t, ended_of}
use mathlib.Core.Path.{◌≡◌, ◌∙◌, sym}
use Rattle.codebook.proofs.write_code.Kinds as write-code
use Rattle.codebook.proofs.write_code.Reads as write-code-reads

pub write_code_determined : (κs : Lfts 1) (a : Dens κs write-code.ps) (r₁ r₂ : (res_t write-code.r κs).Denot)
    (x₁ x₂ : AtExit (ended_of 1 write-code.ps write-code.r) κs)
    → write-code-reads.Post κs a r₁ x₁ → write-code-reads.Post κs a r₂ x₂
    → (r₁ ≡ r₂) × (x₁.1.0.now ≡ x₂.1.0.now)
write_code_determined κs a r₁ r₂ x₁ x₂ p q = (p.0 ∙ sym q.0, p.1 ∙ sym q.1)

-- Any two results that a public function's contract allows for the same input agree, and so do the buffers after them.
-- Assumes nothing.
use mathlib.Core.Path.{◌≡◌, ◌∙◌, sym}
use contract.Lifetimes.{Lfts}
use denote.Triple.Clauses.{AtExit}
use borrow.Fn.Kinds.{Dens, res_t, ended_of}
use Rattle.gateway.proofs.oatlantern_read_frame.Kinds as read
use Rattle.gateway.proofs.oatlantern_read_frame.Reads as read-reads
use Rattle.gateway.proofs.oatlantern_write_frame.Kinds as write
use Rattle.gateway.proofs.oatlantern_write_frame.Reads as write-reads

pub read_determined : (κs : Lfts 2) (a : Dens κs read.ps) (r₁ r₂ : (res_t read.r κs).Denot)
    (x₁ x₂ : AtExit (ended_of 2 read.ps read.r) κs)
    → read-reads.Post κs a r₁ x₁ → read-reads.Post κs a r₂ x₂ → (r₁ ≡ r₂) × (x₁.1.0.now ≡ x₂.1.0.now)
read_determined κs a r₁ r₂ x₁ x₂ p q = (p.0 ∙ sym q.0, p.1 ∙ sym q.1)

pub write_determined : (κs : Lfts 2) (a : Dens κs write.ps) (r₁ r₂ : (res_t write.r κs).Denot)
    (x₁ x₂ : AtExit (ended_of 2 write.ps write.r) κs)
    → write-reads.Post κs a r₁ x₁ → write-reads.Post κs a r₂ x₂ → (r₁ ≡ r₂) × (x₁.1.0.now ≡ x₂.1.0.now)
write_determined κs a r₁ r₂ x₁ x₂ p q = (p.0 ∙ sym q.0, p.1 ∙ sym q.1)

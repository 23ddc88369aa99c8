-- Any two results that a public function's contract allows for the same input agree.
-- Assumes nothing.
use mathlib.Core.Path.{◌≡◌, ◌∙◌, sym}
use contract.Lifetimes.{Lfts}
use denote.Triple.Clauses.{AtExit}
use borrow.Fn.Kinds.{Dens, res_t, ended_of}
use Rattle.reader.proofs.read.Kinds as read
use Rattle.reader.proofs.read.Reads as read-reads

pub read_determined : (κs : Lfts 1) (a : Dens κs read.ps) (r₁ r₂ : (res_t read.r κs).Denot)
    (x₁ x₂ : AtExit (ended_of 1 read.ps read.r) κs)
    → read-reads.Post κs a r₁ x₁ → read-reads.Post κs a r₂ x₂ → r₁ ≡ r₂
read_determined κs a r₁ r₂ x₁ x₂ p q = p ∙ sym q

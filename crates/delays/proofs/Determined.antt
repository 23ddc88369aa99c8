-- Any two answers that a public function's contract allows are the same.
-- Assumes nothing.
use mathlib.Core.Path.{◌≡◌, ◌∙◌, sym}
use contract.Lifetimes.{Lfts}
use denote.Triple.Clauses.{AtExit}
use borrow.Fn.Kinds.{Dens, res_t, ended_of}
use Rattle.delays.proofs.base.Kinds as base
use Rattle.delays.proofs.base.Reads as base-reads
use Rattle.delays.proofs.twelfths.Kinds as twelfths
use Rattle.delays.proofs.twelfths.Reads as twelfths-reads
use Rattle.delays.proofs.rank_with.Kinds as rank-with
use Rattle.delays.proofs.rank_with.Reads as rank-with-reads

pub base_determined : (κs : Lfts 0) (a : Dens κs base.ps) (r₁ r₂ : (res_t base.r κs).Denot)
    (x₁ x₂ : AtExit (ended_of 0 base.ps base.r) κs) → base-reads.Post κs a r₁ x₁ → base-reads.Post κs a r₂ x₂ → r₁ ≡ r₂
base_determined κs a r₁ r₂ x₁ x₂ p q = p ∙ sym q

pub twelfths_determined : (κs : Lfts 0) (a : Dens κs twelfths.ps) (r₁ r₂ : (res_t twelfths.r κs).Denot)
    (x₁ x₂ : AtExit (ended_of 0 twelfths.ps twelfths.r) κs)
    → twelfths-reads.Post κs a r₁ x₁ → twelfths-reads.Post κs a r₂ x₂ → r₁ ≡ r₂
twelfths_determined κs a r₁ r₂ x₁ x₂ p q = p ∙ sym q

pub rank_with_determined : (κs : Lfts 0) (a : Dens κs rank-with.ps) (r₁ r₂ : (res_t rank-with.r κs).Denot)
    (x₁ x₂ : AtExit (ended_of 0 rank-with.ps rank-with.r) κs)
    → rank-with-reads.Post κs a r₁ x₁ → rank-with-reads.Post κs a r₂ x₂ → r₁ ≡ r₂
rank_with_determined κs a r₁ r₂ x₁ x₂ p q = p ∙ sym q

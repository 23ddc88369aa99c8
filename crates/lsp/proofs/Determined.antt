-- Each contract determines the answer: any two results that it allows are equal.
-- Assumes nothing.
use mathlib.Core.Path.{◌≡◌, ◌∙◌, sym}
use contract.Lifetimes.{Lfts}
use denote.Triple.Clauses.{AtExit}
use borrow.Fn.Kinds.{Dens, res_t, ended_of}
use Rattle.lsp.proofs.order_mark.Kinds as order-mark
use Rattle.lsp.proofs.order_mark.Reads as order-mark-reads

pub order_mark_determined : (κs : Lfts 0) (a : Dens κs order-mark.ps) (r₁ r₂ : (res_t order-mark.r κs).Denot)
    (x₁ x₂ : AtExit (ended_of 0 order-mark.ps order-mark.r) κs)
    → order-mark-reads.Post κs a r₁ x₁ → order-mark-reads.Post κs a r₂ x₂ → r₁ ≡ r₂
order_mark_determined κs a r₁ r₂ x₁ x₂ p q = p ∙ sym q

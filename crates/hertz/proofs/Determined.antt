-- Any two results that a public contract allows agree.
-- Assumes nothing.
use mathlib.Core.Path.{◌≡◌, ◌∙◌, sym}
use contract.Lifetimes.{Lfts}
use denote.Triple.Clauses.{AtExit}
use borrow.Fn.Kinds.{Dens, res_t, ended_of}
use Rattle.hertz.proofs.in_hertz.Kinds as in-hertz
use Rattle.hertz.proofs.in_hertz.Reads as in-hertz-reads

pub in_hertz_determined : (κs : Lfts 0) (a : Dens κs in-hertz.ps) (r₁ r₂ : (res_t in-hertz.r κs).Denot)
    (x₁ x₂ : AtExit (ended_of 0 in-hertz.ps in-hertz.r) κs) → in-hertz-reads.Post κs a r₁ x₁
    → in-hertz-reads.Post κs a r₂ x₂ → r₁ ≡ r₂
in_hertz_determined κs a r₁ r₂ x₁ x₂ p q = p ∙ sym q

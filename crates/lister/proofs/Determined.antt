-- Any two results that a public contract allows agree: the result, each byte of the text, and each number that is told.
-- Assumes nothing.
use mathlib.Core.Path.{◌≡◌, ◌∙◌, sym}
use contract.Lifetimes.{Lfts}
use denote.Triple.Clauses.{AtExit}
use borrow.Fn.Kinds.{Dens, res_t, ended_of}
use Rattle.lister.proofs.oatlantern_list.Kinds as list
use Rattle.lister.proofs.oatlantern_list.Reads as list-reads

pub list_determined : (κs : Lfts 4) (a : Dens κs list.ps) (r₁ r₂ : (res_t list.r κs).Denot)
    (x₁ x₂ : AtExit (ended_of 4 list.ps list.r) κs)
    → list-reads.Post κs a r₁ x₁ → list-reads.Post κs a r₂ x₂
    → (r₁ ≡ r₂)
    × (x₁.1.0.now ≡ x₂.1.0.now)
    × (x₁.1.1.0.now ≡ x₂.1.1.0.now)
    × (x₁.1.1.1.0.now ≡ x₂.1.1.1.0.now)
list_determined κs a r₁ r₂ x₁ x₂ p q =
    (p.0 ∙ sym q.0, p.1.0 ∙ sym q.1.0, p.1.1.0 ∙ sym q.1.1.0, p.1.1.1 ∙ sym q.1.1.1)

-- Any two results that a public contract allows agree.
-- Assumes nothing.
use contract.Lifetimes.{Lfts}
use denote.Triple.Clauses.{AtExit}
use borrow.Fn.Kinds.{Dens, res_t, ended_of}
use Rattle.std.proofs.Common.{◌≡◌, sym, ◌∙◌}
use Rattle.draws.proofs.Generator.fresh.Kinds as fresh
use Rattle.draws.proofs.Generator.fresh.Reads as fresh-reads
use Rattle.draws.proofs.Generator.draw.Kinds as draw
use Rattle.draws.proofs.Generator.draw.Reads as draw-reads

pub fresh_determined : (κs : Lfts 0) (a : Dens κs fresh.ps) (r₁ r₂ : (res_t fresh.r κs).Denot)
    (x₁ x₂ : AtExit (ended_of 0 fresh.ps fresh.r) κs)
    → fresh-reads.Post κs a r₁ x₁ → fresh-reads.Post κs a r₂ x₂ → r₁ ≡ r₂
fresh_determined κs a r₁ r₂ x₁ x₂ p q = p ∙ sym q

pub draw_determined : (κs : Lfts 0) (a : Dens κs draw.ps) (r₁ r₂ : (res_t draw.r κs).Denot)
    (x₁ x₂ : AtExit (ended_of 0 draw.ps draw.r) κs)
    → draw-reads.Post κs a r₁ x₁ → draw-reads.Post κs a r₂ x₂ → r₁ ≡ r₂
draw_determined κs a r₁ r₂ x₁ x₂ p q = p ∙ sym q

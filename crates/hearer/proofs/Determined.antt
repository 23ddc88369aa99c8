-- Any two results that a public contract allows agree: the result, and each number that is lent.
-- Assumes nothing.
use mathlib.Core.Path.{◌≡◌, ◌∙◌, sym}
use contract.Lifetimes.{Lfts}
use denote.Triple.Clauses.{AtExit}
use borrow.Fn.Kinds.{Dens, res_t, ended_of}
use Rattle.hearer.proofs.oatlantern_hear_record.Kinds as hear
use Rattle.hearer.proofs.oatlantern_hear_record.Reads as hear-reads
use Rattle.hearer.proofs.oatlantern_voice_block.Kinds as voice-block
use Rattle.hearer.proofs.oatlantern_voice_block.Reads as voice-block-reads

pub hear_determined : (κs : Lfts 7) (a : Dens κs hear.ps) (r₁ r₂ : (res_t hear.r κs).Denot)
    (x₁ x₂ : AtExit (ended_of 7 hear.ps hear.r) κs)
    → hear-reads.Post κs a r₁ x₁ → hear-reads.Post κs a r₂ x₂
    → (r₁ ≡ r₂)
    × (x₁.1.0.now ≡ x₂.1.0.now)
    × (x₁.1.1.0.now ≡ x₂.1.1.0.now)
    × (x₁.1.1.1.0.now ≡ x₂.1.1.1.0.now)
    × (x₁.1.1.1.1.0.now ≡ x₂.1.1.1.1.0.now)
    × (x₁.1.1.1.1.1.0.now ≡ x₂.1.1.1.1.1.0.now)
    × (x₁.1.1.1.1.1.1.0.now ≡ x₂.1.1.1.1.1.1.0.now)
hear_determined κs a r₁ r₂ x₁ x₂ p q =
    let v = p.1.1.1 in
    let w = q.1.1.1 in (
      p.0 ∙ sym q.0,
      p.1.0 ∙ sym q.1.0,
      p.1.1.0 ∙ sym q.1.1.0,
      v.0 ∙ sym w.0,
      v.1.0 ∙ sym w.1.0,
      v.1.1.0 ∙ sym w.1.1.0,
      v.1.1.1 ∙ sym w.1.1.1,
    )

pub voice_block_determined : (κs : Lfts 2) (a : Dens κs voice-block.ps) (r₁ r₂ : (res_t voice-block.r κs).Denot)
    (x₁ x₂ : AtExit (ended_of 2 voice-block.ps voice-block.r) κs)
    → voice-block-reads.Post κs a r₁ x₁ → voice-block-reads.Post κs a r₂ x₂
    → x₁.1.1.0.now ≡ x₂.1.1.0.now
voice_block_determined κs a r₁ r₂ x₁ x₂ p q =
    p ∙ sym q

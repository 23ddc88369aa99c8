-- Any two results that a public contract allows agree; of a part of the bytes, where it stands and its list.
-- Assumes nothing.
use contract.Lifetimes.{Lfts}
use denote.Triple.Clauses.{AtExit}
use borrow.Fn.Kinds.{Dens, res_t, ended_of}
use mathlib.Core.Path.{◌≡◌, ◌∙◌, sym}
use Rattle.voices.proofs.voice_span.Kinds as voice-span
use Rattle.voices.proofs.voice_span.Reads as voice-span-reads
use Rattle.voices.proofs.voice_block.Kinds as voice-block
use Rattle.voices.proofs.voice_block.Reads as voice-block-reads
use Rattle.voices.proofs.find.Kinds as find
use Rattle.voices.proofs.find.Reads as find-reads

pub voice_span_determined : (κs : Lfts 1) (a : Dens κs voice-span.ps) (r₁ r₂ : (res_t voice-span.r κs).Denot)
    (x₁ x₂ : AtExit (ended_of 1 voice-span.ps voice-span.r) κs) → voice-span-reads.Post κs a r₁ x₁
    → voice-span-reads.Post κs a r₂ x₂ → r₁ ≡ r₂
voice_span_determined κs a r₁ r₂ x₁ x₂ p q = p ∙ sym q

pub voice_block_determined : (κs : Lfts 1) (a : Dens κs voice-block.ps) (r₁ r₂ : (res_t voice-block.r κs).Denot)
    (x₁ x₂ : AtExit (ended_of 1 voice-block.ps voice-block.r) κs) → voice-block-reads.Post κs a r₁ x₁
    → voice-block-reads.Post κs a r₂ x₂
    → (r₁.now ≡ r₂.now) × (r₁.ref_ptr ≡ r₂.ref_ptr)
voice_block_determined κs a r₁ r₂ x₁ x₂ p q = (p.0 ∙ sym q.0, p.1 ∙ sym q.1)

pub find_determined : (κs : Lfts 1) (a : Dens κs find.ps) (r₁ r₂ : (res_t find.r κs).Denot)
    (x₁ x₂ : AtExit (ended_of 1 find.ps find.r) κs) → find-reads.Post κs a r₁ x₁ → find-reads.Post κs a r₂ x₂ → r₁ ≡ r₂
find_determined κs a r₁ r₂ x₁ x₂ p q = p ∙ sym q

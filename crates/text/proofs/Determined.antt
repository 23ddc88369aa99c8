-- Any two results that a public contract allows agree: the position answered, and each byte of the buffer.
-- Assumes nothing.
use contract.Lifetimes.{Lfts}
use denote.Triple.Clauses.{AtExit}
use borrow.Fn.Kinds.{Dens, res_t, ended_of}
use mathlib.Core.Path.{◌≡◌, ◌∙◌, sym}
use Rattle.text.proofs.least.Kinds as least
use Rattle.text.proofs.least.Reads as least-reads
use Rattle.text.proofs.put_byte.Kinds as put_byte
use Rattle.text.proofs.put_byte.Reads as put-byte-reads
use Rattle.text.proofs.put_word.Kinds as put_word
use Rattle.text.proofs.put_word.Reads as put-word-reads

pub put_byte_determined : (κs : Lfts 1) (a : Dens κs put_byte.ps) (r₁ r₂ : (res_t put_byte.r κs).Denot)
    (x₁ x₂ : AtExit (ended_of 1 put_byte.ps put_byte.r) κs)
    → put-byte-reads.Post κs a r₁ x₁ → put-byte-reads.Post κs a r₂ x₂ → (r₁ ≡ r₂) × (x₁.0.now ≡ x₂.0.now)
put_byte_determined κs a r₁ r₂ x₁ x₂ p q = (p.0 ∙ sym q.0, p.1 ∙ sym q.1)

pub put_word_determined : (κs : Lfts 2) (a : Dens κs put_word.ps) (r₁ r₂ : (res_t put_word.r κs).Denot)
    (x₁ x₂ : AtExit (ended_of 2 put_word.ps put_word.r) κs)
    → put-word-reads.Post κs a r₁ x₁ → put-word-reads.Post κs a r₂ x₂ → (r₁ ≡ r₂) × (x₁.0.now ≡ x₂.0.now)
put_word_determined κs a r₁ r₂ x₁ x₂ p q = (p.0 ∙ sym q.0, p.1 ∙ sym q.1)

pub least_determined : (κs : Lfts 0) (a : Dens κs least.ps) (r₁ r₂ : (res_t least.r κs).Denot)
    (x₁ x₂ : AtExit (ended_of 0 least.ps least.r) κs) → least-reads.Post κs a r₁ x₁ → least-reads.Post κs a r₂ x₂
    → r₁ ≡ r₂
least_determined κs a r₁ r₂ x₁ x₂ p q = p ∙ sym q

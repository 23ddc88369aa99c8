-- Any two results that a public contract allows agree: the position answered, and each byte of the buffer.
-- Assumes nothing.
use contract.Lifetimes.{Lfts}
use denote.Triple.Clauses.{AtExit}
use borrow.Fn.Kinds.{Dens, res_t, ended_of}
use mathlib.Core.Path.{◌≡◌, ◌∙◌, sym}
use Rattle.decimals.proofs.put_number.Kinds as put-number
use Rattle.decimals.proofs.put_number.Reads as put-number-reads
use Rattle.decimals.proofs.put_signed.Kinds as put-signed
use Rattle.decimals.proofs.put_signed.Reads as put-signed-reads
use Rattle.decimals.proofs.put_list.Kinds as put-list
use Rattle.decimals.proofs.put_list.Reads as put-list-reads

pub put_number_determined : (κs : Lfts 1) (a : Dens κs put-number.ps) (r₁ r₂ : (res_t put-number.r κs).Denot)
    (x₁ x₂ : AtExit (ended_of 1 put-number.ps put-number.r) κs)
    → put-number-reads.Post κs a r₁ x₁ → put-number-reads.Post κs a r₂ x₂ → (r₁ ≡ r₂) × (x₁.0.now ≡ x₂.0.now)
put_number_determined κs a r₁ r₂ x₁ x₂ p q = (p.0 ∙ sym q.0, p.1 ∙ sym q.1)

pub put_signed_determined : (κs : Lfts 1) (a : Dens κs put-signed.ps) (r₁ r₂ : (res_t put-signed.r κs).Denot)
    (x₁ x₂ : AtExit (ended_of 1 put-signed.ps put-signed.r) κs)
    → put-signed-reads.Post κs a r₁ x₁ → put-signed-reads.Post κs a r₂ x₂ → (r₁ ≡ r₂) × (x₁.0.now ≡ x₂.0.now)
put_signed_determined κs a r₁ r₂ x₁ x₂ p q = (p.0 ∙ sym q.0, p.1 ∙ sym q.1)

pub put_list_determined : (κs : Lfts 2) (a : Dens κs put-list.ps) (r₁ r₂ : (res_t put-list.r κs).Denot)
    (x₁ x₂ : AtExit (ended_of 2 put-list.ps put-list.r) κs)
    → put-list-reads.Post κs a r₁ x₁ → put-list-reads.Post κs a r₂ x₂ → (r₁ ≡ r₂) × (x₁.0.now ≡ x₂.0.now)
put_list_determined κs a r₁ r₂ x₁ x₂ p q = (p.0 ∙ sym q.0, p.1 ∙ sym q.1)

-- Any two results that a public contract allows agree: the result, each word of the book, and each number that is told.
-- Assumes nothing.
use mathlib.Core.Path.{◌≡◌, ◌∙◌, sym}
use contract.Lifetimes.{Lfts}
use denote.Triple.Clauses.{AtExit}
use borrow.Fn.Kinds.{Dens, res_t, ended_of}
use Rattle.ledger.proofs.oatlantern_tally_enter.Kinds as enter
use Rattle.ledger.proofs.oatlantern_tally_enter.Reads as enter-reads
use Rattle.ledger.proofs.oatlantern_tally_enter_recording.Kinds as enter-recording
use Rattle.ledger.proofs.oatlantern_tally_enter_recording.Reads as enter-recording-reads
use Rattle.ledger.proofs.oatlantern_tally_held.Kinds as held
use Rattle.ledger.proofs.oatlantern_tally_held.Reads as held_reads
use Rattle.ledger.proofs.oatlantern_tally_total.Kinds as total
use Rattle.ledger.proofs.oatlantern_tally_total.Reads as total-reads
use Rattle.ledger.proofs.oatlantern_tally_entries.Kinds as entries
use Rattle.ledger.proofs.oatlantern_tally_entries.Reads as entries-reads

pub enter_determined : (κs : Lfts 1) (a : Dens κs enter.ps) (r₁ r₂ : (res_t enter.r κs).Denot)
    (x₁ x₂ : AtExit (ended_of 1 enter.ps enter.r) κs)
    → enter-reads.Post κs a r₁ x₁ → enter-reads.Post κs a r₂ x₂
    → (r₁ ≡ r₂) × (x₁.0.now ≡ x₂.0.now)
enter_determined κs a r₁ r₂ x₁ x₂ p q =
    (p.0 ∙ sym q.0, p.1 ∙ sym q.1)

pub enter_recording_determined : (κs : Lfts 3) (a : Dens κs enter-recording.ps) (r₁ r₂ : (res_t enter-recording.r κs).Denot)
    (x₁ x₂ : AtExit (ended_of 3 enter-recording.ps enter-recording.r) κs)
    → enter-recording-reads.Post κs a r₁ x₁ → enter-recording-reads.Post κs a r₂ x₂
    → (r₁ ≡ r₂) × (x₁.0.now ≡ x₂.0.now) × (x₁.1.1.1.0.now ≡ x₂.1.1.1.0.now)
enter_recording_determined κs a r₁ r₂ x₁ x₂ p q =
    (p.0 ∙ sym q.0, p.1.0 ∙ sym q.1.0, p.1.1 ∙ sym q.1.1)

pub held_determined : (κs : Lfts 2) (a : Dens κs held.ps) (r₁ r₂ : (res_t held.r κs).Denot)
    (x₁ x₂ : AtExit (ended_of 2 held.ps held.r) κs)
    → held_reads.Post κs a r₁ x₁ → held_reads.Post κs a r₂ x₂
    → (r₁ ≡ r₂) × (x₁.1.1.1.0.now ≡ x₂.1.1.1.0.now)
held_determined κs a r₁ r₂ x₁ x₂ p q =
    (p.0 ∙ sym q.0, p.1 ∙ sym q.1)

pub total_determined : (κs : Lfts 1) (a : Dens κs total.ps) (r₁ r₂ : (res_t total.r κs).Denot)
    (x₁ x₂ : AtExit (ended_of 1 total.ps total.r) κs)
    → total-reads.Post κs a r₁ x₁ → total-reads.Post κs a r₂ x₂
    → r₁ ≡ r₂
total_determined κs a r₁ r₂ x₁ x₂ p q =
    p ∙ sym q

pub entries_determined : (κs : Lfts 1) (a : Dens κs entries.ps) (r₁ r₂ : (res_t entries.r κs).Denot)
    (x₁ x₂ : AtExit (ended_of 1 entries.ps entries.r) κs)
    → entries-reads.Post κs a r₁ x₁ → entries-reads.Post κs a r₂ x₂
    → r₁ ≡ r₂
entries_determined κs a r₁ r₂ x₁ x₂ p q =
    p ∙ sym q

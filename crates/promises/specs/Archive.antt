-- The wider C boundary: "contracts that fix the result and every lent byte [..] Refusals are minus their number, as the
-- reader's; what a refusal tells goes into a lent number where there is something to tell."
use Rattle.std.specs.Prelude.{◌≡◌, List, [], ◌∷◌, ℕ, ℤ, pos, neg_ℤ, length, Ok, Err}
use Rattle.blocks.specs.Walk.{walked_of}
use Rattle.blocks.specs.Refusals.{told_of, walked_refusal}
use Rattle.blocks.specs.declared.Cause.{Cause}
use Rattle.kept.specs.Planning.{number_of}
use Rattle.kept.specs.declared.Unsalvaged.{Unsalvaged}
use Rattle.salvage.specs.Salvaging.{salvage_of, buffer_of}
use Rattle.tally.specs.Entering.{entering_of, book_after_recording, recording_entry}
use Rattle.listing.specs.Listing.{room, listing_of, listed_of, listing_left}
use Rattle.verdicts.specs.Verdicts.{cause_number, refusal_told, recording_told}
use Rattle.lister.specs.Results.{list_result, end_left, numbers_left}
use Rattle.mender.specs.Results.{salvage_result, changes_left}
use Rattle.ledger.specs.Results.{entering_result}
use Rattle.hearer.specs.Hearing.{refusal_in, if_heard, if_kept}

-- a listing in C: minus the number of the recording's refusal, 0 where it is sound; where the text ends, and what is
-- told
unfoldable pub ListTells : Type 0
ListTells =
    (s o e t : List ℕ) → length o ≡ room
    → (list_result (listed_of s (length o)) s ≡ neg_ℤ (pos (walked_refusal (walked_of s))))
    × (end_left (listed_of s (length o)) e ≡ length (listing_of s) ∷ [])
    × (numbers_left (listed_of s (length o)) s t ≡ recording_told s)

-- a text buffer of another length is refused, and nothing that is lent is written
unfoldable pub RefusedListStays : Type 0
RefusedListStays =
    (s o e t : List ℕ) → (length o ≡ room → ⊥)
    → (list_result (listed_of s (length o)) s ≡ neg_ℤ (pos 1)) × (listing_left s o ≡ o)
    × (end_left (listed_of s (length o)) e ≡ e) × (numbers_left (listed_of s (length o)) s t ≡ t)

-- what is told of a recording: the key by which it is entered, or what its refusal tells, and its cause
unfoldable pub RecordingTold : Type 0
RecordingTold =
    (s : List ℕ)
    → ((walked_of s).ending ≡ Ok tt → (count : ℕ)
    → recording_told s ≡ (recording_entry s count).unit ∷ (recording_entry s count).number ∷ 0 ∷ 0 ∷ 0 ∷ [])
    × ((cause : Cause) → (walked_of s).ending ≡ Err cause
    → recording_told s ≡ refusal_told (told_of cause) (cause_number cause))

-- a refused salvaging is minus its number, and leaves the buffer and the numbers
unfoldable pub RefusedSalvageStays : Type 0
RefusedSalvageStays =
    (s o c : List ℕ) (why : Unsalvaged) → salvage_of s (length o) ≡ Err why
    → (salvage_result (salvage_of s (length o)) ≡ neg_ℤ (pos (number_of why))) × (buffer_of s o ≡ o)
    × (changes_left (salvage_of s (length o)) (length s) c ≡ c)

-- a recording whose entering is below 0 leaves the book
unfoldable pub RefusedEnteringStays : Type 0
RefusedEnteringStays =
    (b s : List ℕ) (count : ℕ) → ((n : ℕ) → entering_result (entering_of b s count) ≡ pos n → ⊥)
    → book_after_recording b s count ≡ b

-- a record that is refused leaves the values; with 1 and 2 the state too
unfoldable pub RefusedHearingStays : Type 0
RefusedHearingStays =
    (r sync hz : List ℕ)
    → ((new old : List ℤ) → (refusal_in r sync hz ≡ 0 → ⊥) → if_heard (refusal_in r sync hz) new old ≡ old)
    × ((new old : List ℕ) → (refusal_in r sync hz ≡ 0 → ⊥) → if_heard (refusal_in r sync hz) new old ≡ old)
    × ((new old : List ℕ) → refusal_in r sync hz ≡ 1 → if_kept (refusal_in r sync hz) new old ≡ old)
    × ((new old : List ℕ) → refusal_in r sync hz ≡ 2 → if_kept (refusal_in r sync hz) new old ≡ old)

-- The wider C boundary.
-- Assumes nothing.
use mathlib.Core.Path.{◌≡◌, refl, ap, ◌∙◌}
use mathlib.Core.List.{List}
use Prim.Native.Nat.{ℕ}
use borrow.Author.Tests.{eq-eqb, ne_eqb}
use lib.IntN.{pos}
use lib.ListN.{length}
use Rattle.std.specs.Prelude.{Ok, Err, Result}
use Rattle.kept.specs.declared.Unsalvaged.{Unsalvaged}
use Rattle.blocks.specs.Frames.{if_sound}
use Rattle.blocks.specs.Walk.{walked_of}
use Rattle.blocks.specs.Walk.{Ending}
use Rattle.salvage.specs.Salvaging.{result_of, buffer_by, buffer_of}
use Rattle.salvage.specs.declared.Salvaged.{Salvaged}
use Rattle.tally.specs.Book.{tallied, book_by, book_then}
use Rattle.tally.specs.Entering.{of_entry, entering_by, entering_of, book_after_recording, recording_entry}
use Rattle.tally.specs.declared.Entry.{Entry}
use Rattle.listing.specs.Listing.{room, listed_of, listing_left}
use Rattle.verdicts.specs.Verdicts.{verdict_of, ending_told, recording_told}
use Rattle.mender.specs.Results.{salvage_result, changes_left}
use Rattle.ledger.specs.Results.{enter_result, entering_result}
use Rattle.hearer.specs.Hearing.{refusal_in}
use Rattle.promises.specs.Archive.{ListTells, RefusedListStays, RecordingTold, RefusedSalvageStays}
use Rattle.promises.specs.Archive.{RefusedEnteringStays, RefusedHearingStays}
use Rattle.std.specs.Prelude.{Result, Ok, Err}
use Rattle.tally.specs.declared.Tallied.{Tallied}
use Rattle.tally.specs.declared.Tallied.TheVariants.{Entered, AlreadyHeld}
use Rattle.tally.specs.declared.Refusal.{Refusal}

pub list_tells : ListTells
unfolding ListTells listed_of verdict_of
list_tells s o e t long = rw (eq-eqb (length o) room long) (refl, refl, refl)

pub refused_list_stays : RefusedListStays
unfolding RefusedListStays listed_of listing_left
refused_list_stays s o e t other = rw (ne_eqb (length o) room other) (refl, refl, refl, refl)

pub recording_told_lem : RecordingTold
unfolding RecordingTold recording_told recording_entry
recording_told_lem s = (
  (λ e count. ap (λ (x : Ending). ending_told x (walked_of s).walk.heading) e),
  (λ cause e. ap (λ (x : Ending). ending_told x (walked_of s).walk.heading) e),
)

pub refused_salvage_stays : RefusedSalvageStays
unfolding RefusedSalvageStays buffer_of
refused_salvage_stays s o c why e = (
  ap salvage_result e,
  ap (λ (x : Result Salvaged Unsalvaged). buffer_by x (result_of s) o) e,
  ap (λ (x : Result Salvaged Unsalvaged). changes_left x (length s) c) e,
)

-- an answer below 0 leaves the book
stays : (t : Result Tallied Refusal) (b : List ℕ) (e : Entry) → ((n : ℕ) → enter_result t ≡ pos n → ⊥) → book_by t b e ≡ b
stays (Ok Entered) b e below = absurd (below 0 refl)
stays (Ok AlreadyHeld) b e below = refl
stays (Err refusal) b e below = refl

-- an entry has the same result as a recording that is entered by it
same_result : (t : Result Tallied Refusal) → entering_result (of_entry t) ≡ enter_result t
same_result (Ok tallied) = refl
same_result (Err refusal) = refl

by_ending : (x : Ending) (b : List ℕ) (e : Entry) → ((n : ℕ) → entering_result (entering_by x b e) ≡ pos n → ⊥)
    → if_sound x (book_then b e) b ≡ b
unfolding book_then
by_ending (Ok _) b e below = stays (tallied b e) b e (λ n q. below n (same_result (tallied b e) ∙ q))
by_ending (Err cause) b e below = refl

pub refused_entering_stays : RefusedEnteringStays
unfolding RefusedEnteringStays entering_of book_after_recording
refused_entering_stays b s count below = by_ending (walked_of s).ending b (recording_entry s count) below

pub refused_hearing_stays : RefusedHearingStays
unfolding RefusedHearingStays
refused_hearing_stays r sync hz = (
  (λ new old f. rw (ne_eqb (refusal_in r sync hz) 0 f) refl),
  (λ new old f. rw (ne_eqb (refusal_in r sync hz) 0 f) refl),
  (λ new old e. rw e refl),
  (λ new old e. rw e refl),
)

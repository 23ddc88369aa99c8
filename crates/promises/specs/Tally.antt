-- What the tally book makes of a salvaged recording (document 02, K2 and K3).
use Rattle.std.specs.Prelude.{◌≡◌, List, ℕ, take, Ok}
use Rattle.blocks.specs.Walk.{after_head, walked_of}
use Rattle.salvage.specs.Promised.{Salvages}
use Rattle.salvage.specs.Salvaging.{result_of}
use Rattle.tally.specs.Entering.{recording_entry, entering_of, book_after_recording, refusal_of}
use Rattle.tally.specs.History.{IsBook}
use Rattle.std.specs.Prelude.{Ok}
use Rattle.tally.specs.declared.Tallied.TheVariants.{AlreadyHeld}

-- where one of two recordings was accepted with a count, the other is already held with it
abbrev pub HeldAfter : List ℕ → List ℕ → ℕ → Type 0
HeldAfter first second count =
    (b : List ℕ) → IsBook b → refusal_of (entering_of b first count) ≡ 0
    → entering_of (book_after_recording b first count) second count ≡ Ok AlreadyHeld

-- a salvaged recording and the whole one have the same key, where its head arrived: the first fourteen bytes are the
-- same. So whichever comes first, the other is already held with the same count.
unfoldable pub SalvagedSameKey : Type 0
SalvagedSameKey =
    (s whole : List ℕ) (room count : ℕ) → Salvages s room → (walked_of whole).ending ≡ Ok tt
    → take (after_head 0) s ≡ take (after_head 0) whole
    → (recording_entry (result_of s) count ≡ recording_entry whole count)
    × HeldAfter whole (result_of s) count × HeldAfter (result_of s) whole count

-- What holds of every listing.
use Rattle.std.specs.Prelude.{◌≡◌, List, ◌++◌, ◌↔◌, ℕ, ◌<◌, ◌≤◌, length, get_or, drop, Err, Ok}
use Rattle.text.specs.Ascii.{ascii}
use Rattle.text.specs.Decimal.{decimal}
use Rattle.blocks.specs.Walk.{walked_of}
use Rattle.blocks.specs.declared.Cause.TheVariants.{HeaderCut, PastEnd, WrongSize}
use Rattle.frame.specs.Answers.{correction_number}
use Rattle.values.specs.declared.Outcome.TheVariants.{Expansion}
use Rattle.passes.specs.declared.Hearing.{Hearing}
use Rattle.lines.specs.Lines.{letter_of, rest_of}
use Rattle.listing.specs.Listing.{said_of, frame_of, room, listing_of, listed_of, listing_left, refusal_of}

-- the listing of any bytes fits the buffer, whole
unfoldable pub ListingFits : Type 0
ListingFits = (s : List ℕ) → ((i : ℕ) → get_or s i 0 < 256) → length (listing_of s) ≤ room

-- the text that is answered is the first bytes of the buffer, whole, and what stood after it stays
unfoldable pub ListingStands : Type 0
ListingStands =
    (s o : List ℕ) (m : ℕ) → listed_of s (length o) ≡ Ok m
    → (m ≡ length (listing_of s)) × (listing_left s o ≡ listing_of s ++ drop m o)

-- what is wrong with a block is the whole listing, and with 11 the payload size follows the place (document 02, K1)
unfoldable pub FaultsListed : Type 0
FaultsListed =
    (s : List ℕ) (p size : ℕ)
    → ((walked_of s).ending ≡ Err (HeaderCut p) → listing_of s ≡ ascii "refused 9 at " ++ decimal p ++ ascii "\n")
    × ((walked_of s).ending ≡ Err (PastEnd p) → listing_of s ≡ ascii "refused 10 at " ++ decimal p ++ ascii "\n")
    × ((walked_of s).ending ≡ Err (WrongSize p size)
    → listing_of s ≡ ascii "refused 11 at " ++ decimal p ++ ascii " " ++ decimal size ++ ascii "\n")

-- after its number the line of a frame has the correction number and the letter, and then the rest; with 6 too: "2 15 d
-- refused 6" (document 02, K5)
unfoldable pub LetterListed : Type 0
LetterListed =
    (n : ℕ) (h : Hearing)
    → (frame_of n h
    ≡ decimal n ++ ascii " " ++ decimal (correction_number h.reading) ++ ascii " "
    ++ letter_of h.reading.correction ++ rest_of (said_of n h) ++ ascii "\n")
    × (h.values.outcome ≡ Expansion → rest_of (said_of n h) ≡ ascii " refused 6")

-- a buffer of any other length is refused (1) and stays as it was
unfoldable pub RefusedListingStays : Type 0
RefusedListingStays =
    (s o : List ℕ)
    → ((refusal_of (listed_of s (length o)) ≡ 1) ↔ (length o ≡ room → ⊥)) × ((length o ≡ room → ⊥) → listing_left s o ≡ o)

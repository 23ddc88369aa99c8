-- What listing answers in C, and what it leaves in the numbers that it is lent, by what the listing came to: "list a
-- recording into a text buffer".
use Rattle.std.specs.Prelude.{List, [], ◌∷◌, ℕ, ℤ, Result, Ok, Err}
use Rattle.listing.specs.declared.Unlisted.TheVariants.{WrongLength}
use Rattle.listing.specs.declared.Unlisted.{Unlisted}
use Rattle.verdicts.specs.Verdicts.{refused, verdict_of, recording_told}
use Rattle.listing.specs.Listing.{refusal_of}

-- a text was laid, that of a refused recording too: the verdict; or the buffer is refused
abbrev pub list_result : Result ℕ Unlisted → List ℕ → ℤ
list_result (Ok n) s = verdict_of s
list_result (Err WrongLength) s = refused (refusal_of (Err WrongLength))

-- where the text ends
abbrev pub end_left : Result ℕ Unlisted → List ℕ → List ℕ
end_left (Ok n) o = n ∷ []
end_left (Err WrongLength) o = o

-- what is told of the recording
abbrev pub numbers_left : Result ℕ Unlisted → List ℕ → List ℕ → List ℕ
numbers_left (Ok n) s o = recording_told s
numbers_left (Err WrongLength) s o = o

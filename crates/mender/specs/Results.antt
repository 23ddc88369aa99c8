-- What salvaging answers in C, and the numbers that it leaves: "salvage into a buffer, with the changes as numbers in a
-- lent array".
use Rattle.std.specs.Prelude.{List, [], ◌∷◌, ℕ, ℤ, pos, Result, Ok, Err}
use Rattle.kept.specs.declared.Unsalvaged.{Unsalvaged}
use Rattle.verdicts.specs.Verdicts.{refused}
use Rattle.kept.specs.Planning.{number_of}
use Rattle.salvage.specs.declared.Salvaged.{Salvaged}
use Rattle.salvage.specs.declared.Salvaged.TheVariants.{Sound, Mended}

abbrev pub salvage_result : Result Salvaged Unsalvaged → ℤ
salvage_result (Ok Sound) = pos 0
salvage_result (Ok (Mended changes)) = pos 1
salvage_result (Err why) = refused (number_of why)

-- the changes of a mended recording; of a sound one, of so many bytes, nothing but the length of the result; a refusal
-- tells nothing, and the numbers are as they were
abbrev pub changes_left : Result Salvaged Unsalvaged → ℕ → List ℕ → List ℕ
changes_left (Ok Sound) long o = 0 ∷ 0 ∷ 0 ∷ 0 ∷ long ∷ []
changes_left (Ok (Mended changes)) long o =
    changes.dropped ∷ changes.from ∷ changes.frames ∷ changes.end ∷ changes.long ∷ []
changes_left (Err why) long o = o

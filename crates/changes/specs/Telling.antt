-- The lines in which a salvaging tells what it changed (document 02, K2): "bytes dropped from where, frames kept, end
-- written", a line each. Words and numbers are one space apart and each line ends in a newline.
use Rattle.std.specs.Prelude.{cond, List, [], ◌++◌, ℕ, eqb, Result, Ok, Err}
use Rattle.kept.specs.declared.Unsalvaged.{Unsalvaged}
use Rattle.text.specs.Ascii.{ascii}
use Rattle.text.specs.Decimal.{decimal}
use Rattle.kept.specs.Planning.{number_of}
use Rattle.salvage.specs.declared.Changes.{Changes}
use Rattle.salvage.specs.declared.Salvaged.{Salvaged}
use Rattle.salvage.specs.declared.Salvaged.TheVariants.{Sound, Mended}

unfoldable pub dropped_line : ℕ → ℕ → List ℕ
dropped_line bytes from = ascii "dropped " ++ (decimal bytes ++ (ascii " bytes from " ++ (decimal from ++ ascii "\n")))

unfoldable pub kept_line : ℕ → List ℕ
kept_line frames = ascii "kept " ++ (decimal frames ++ ascii " frames\n")

unfoldable pub end_line : ℕ → List ℕ
end_line place = ascii "end written at " ++ (decimal place ++ ascii "\n")

unfoldable pub refused_line : ℕ → List ℕ
refused_line number = ascii "refused " ++ (decimal number ++ ascii "\n")

-- only where there is such a change: an end is written and frames are kept in every recording that is mended
unfoldable pub dropped_text : ℕ → ℕ → List ℕ
dropped_text bytes from = cond (eqb bytes 0) [] (dropped_line bytes from)

unfoldable pub changes_text : Changes → List ℕ
changes_text c = dropped_text c.dropped c.from ++ (kept_line c.frames ++ end_line c.end)

-- a sound recording has an empty list, a refusal one line
abbrev pub telling_of : Result Salvaged Unsalvaged → List ℕ
telling_of (Ok Sound) = []
telling_of (Ok (Mended changes)) = changes_text changes
telling_of (Err why) = refused_line (number_of why)

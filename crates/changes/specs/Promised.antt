-- What holds of every telling of a salvaging's changes (document 02, K2).
use Rattle.std.specs.Prelude.{◌≡◌, List, [], ◌++◌, ℕ, ◌<◌, ◌≤◌, length, Ok}
use Rattle.text.specs.Ascii.{ascii}
use Rattle.text.specs.Decimal.{decimal}
use Rattle.salvage.specs.Salvaging.{salvage_of, refusal_of}
use Rattle.salvage.specs.declared.Changes.{Changes}
use Rattle.salvage.specs.declared.Salvaged.TheVariants.{Sound, Mended}
use Rattle.changes.specs.Telling.{telling_of}

-- frames kept and the end written, which every recording that is mended has
abbrev pub last_lines : Changes → List ℕ
last_lines c =
    ascii "kept " ++ (decimal c.frames ++ (ascii " frames\nend written at " ++ (decimal c.end ++ ascii "\n")))

-- letter for letter: a sound recording has an empty list; of a mended one three lines, or two where nothing was
-- dropped; of a refusal its number
unfoldable pub ChangesTold : Type 0
ChangesTold =
    (s : List ℕ) (room : ℕ) (c : Changes)
    → (salvage_of s room ≡ Ok Sound → telling_of (salvage_of s room) ≡ [])
    × (salvage_of s room ≡ Ok (Mended c) → c.dropped ≡ 0 → telling_of (salvage_of s room) ≡ last_lines c)
    × (salvage_of s room ≡ Ok (Mended c) → 0 < c.dropped
    → telling_of (salvage_of s room)
    ≡ ascii "dropped "
    ++ (decimal c.dropped ++ (ascii " bytes from " ++ (decimal c.from ++ (ascii "\n" ++ last_lines c)))))
    × (refusal_of (salvage_of s room) ≡ 1 → telling_of (salvage_of s room) ≡ ascii "refused 1\n")
    × (refusal_of (salvage_of s room) ≡ 12 → telling_of (salvage_of s room) ≡ ascii "refused 12\n")

-- 128 bytes have room for every telling, whole
unfoldable pub ChangesFit : Type 0
ChangesFit = (s : List ℕ) (room : ℕ) → length (telling_of (salvage_of s room)) ≤ 128

-- The fields of a record, by number (document 01, "The 144 places"; widths from 3.8.2).
use Rattle.std.specs.Prelude.{Bool, cond, List, [], ◌∷◌, ℕ, zero, suc, ◌+◌, ◌-◌, ◌^◌, leb, eqb, Option, None, Some, get_or}
use Rattle.laws.specs.Lowest.{lowest}
use Rattle.laws.specs.Tabulate.{tabulate}
use Rattle.record.specs.declared.Record.{Record}

-- how many bits each field has, field 1 first: LSP 1 to 10; PD, PG, CI, CG of subframes 1 to 4; SP; SY
abbrev pub widths : List ℕ
widths =
    3 ∷ 4 ∷ 4 ∷ 4 ∷ 4 ∷ 3 ∷ 3 ∷ 3 ∷ 3 ∷ 3 ∷
    8 ∷ 5 ∷ 9 ∷ 5 ∷
    6 ∷ 5 ∷ 9 ∷ 5 ∷
    8 ∷ 5 ∷ 9 ∷ 5 ∷
    6 ∷ 5 ∷ 9 ∷ 5 ∷
    1 ∷ 1 ∷ []

-- the width of field i
abbrev pub width_of : ℕ → ℕ
width_of i = get_or widths (i - 1) 0

-- the index in field i
abbrev pub index_of : Record → ℕ → ℕ
index_of r i =
    cond (leb i 10) (get_or r.lsp (i - 1) 0)
    (cond (leb i 26) (get_or r.subframes (i - 11) 0)
    (cond (eqb i 27) r.sp r.sy))

-- the record whose field i holds v i
abbrev pub record_with : (ℕ → ℕ) → Record
record_with v =
    record { lsp = tabulate (λ k. v (k + 1)) 10; subframes = tabulate (λ k. v (k + 11)) 16; sp = v 27; sy = v 28 }

-- the index in each field, field 1 first
unfoldable pub indices_of : Record → List ℕ
indices_of r = tabulate (λ k. index_of r (k + 1)) 28

-- the index in field i does not fit its width
abbrev pub over : Record → ℕ → Bool
over r i = leb (2 ^ width_of i) (index_of r i)

-- the lowest field whose index is too large, or 0
unfoldable pub too_large_field : Record → ℕ
too_large_field r = lowest (over r) 28

-- the field that such a number names; 0 names none
abbrev pub field_named : ℕ → Option ℕ
field_named zero = None
field_named (suc i) = Some (suc i)

-- The coding of the ten line spectral parameters (3.7.2), in Hz, and its refusal (document 01, refusal 2).
use Rattle.std.specs.Prelude.{Bool, List, [], ◌∷◌, ℕ, ◌+◌, ◌-◌, ◌/◌, ◌%◌, ◌^◌, leb, eqb, length, get_or, Result, Ok, Err}
use Rattle.laws.specs.Table.{both, every}
use Rattle.laws.specs.Lowest.{lowest}
use Rattle.laws.specs.Tabulate.{tabulate}
use Rattle.laws.specs.Unless.{unless}
use Rattle.lsp.specs.declared.Refusal.{Refusal}
use Rattle.lsp.specs.declared.Refusal.TheVariants.{TooLarge}

-- how many bits the index of each parameter has, LSP 1 first
abbrev pub bits : List ℕ
bits = 3 ∷ 4 ∷ 4 ∷ 4 ∷ 4 ∷ 3 ∷ 3 ∷ 3 ∷ 3 ∷ 3 ∷ []

-- the printed table by its columns, LSP 1 first, each from index 0
unfoldable pub hz_table : List (List ℕ)
hz_table =
    (100 ∷ 170 ∷ 225 ∷ 250 ∷ 280 ∷ 340 ∷ 420 ∷ 500 ∷ []) ∷
    (210 ∷ 235 ∷ 265 ∷ 295 ∷ 325 ∷ 360 ∷ 400 ∷ 440 ∷ 480 ∷ 520 ∷ 560 ∷ 610 ∷ 670 ∷ 740 ∷ 810 ∷ 880 ∷ []) ∷
    (420 ∷ 460 ∷ 500 ∷ 540 ∷ 585 ∷ 640 ∷ 705 ∷ 775 ∷ 850 ∷ 950 ∷ 1050 ∷ 1150 ∷ 1250 ∷ 1350 ∷ 1450 ∷ 1550 ∷ []) ∷
    (620 ∷ 660 ∷ 720 ∷ 795 ∷ 880 ∷ 970 ∷ 1080 ∷ 1170 ∷ 1270 ∷ 1370 ∷ 1470 ∷ 1570 ∷ 1670 ∷ 1770 ∷ 1870 ∷ 1970 ∷ []) ∷
    (1000 ∷ 1050 ∷ 1130 ∷ 1210 ∷ 1285 ∷ 1350 ∷ 1430 ∷ 1510 ∷ 1590 ∷ 1670 ∷ 1750 ∷ 1850 ∷ 1950 ∷ 2050 ∷ 2150 ∷ 2250
    ∷ []) ∷
    (1470 ∷ 1570 ∷ 1690 ∷ 1830 ∷ 2000 ∷ 2200 ∷ 2400 ∷ 2600 ∷ []) ∷
    (1800 ∷ 1880 ∷ 1960 ∷ 2100 ∷ 2300 ∷ 2480 ∷ 2700 ∷ 2900 ∷ []) ∷
    (2225 ∷ 2400 ∷ 2525 ∷ 2650 ∷ 2800 ∷ 2950 ∷ 3150 ∷ 3350 ∷ []) ∷
    (2760 ∷ 2880 ∷ 3000 ∷ 3100 ∷ 3200 ∷ 3310 ∷ 3430 ∷ 3550 ∷ []) ∷
    (3190 ∷ 3270 ∷ 3350 ∷ 3420 ∷ 3490 ∷ 3590 ∷ 3710 ∷ 3830 ∷ []) ∷
    []

-- the column of LSP j
abbrev pub column : ℕ → List ℕ
column j = get_or hz_table (j - 1) []

-- LSP j of a list of ten, counted from 1
abbrev pub lsp : List ℕ → ℕ → ℕ
lsp values j = get_or values (j - 1) 0

-- LSP j in Hz at an index
abbrev pub hz_of : ℕ → ℕ → ℕ
hz_of j index = get_or (column j) index 0

-- sixteen rows of ten, one after the other: at place i of row k stands entry k of the column of LSP i+1, 0 past its end
abbrev pub entry_printed : ℕ → ℕ → Bool
entry_printed n x = eqb x (get_or (column (n % 10 + 1)) (n / 10) 0)

-- each is as printed
abbrev pub as_printed : List ℕ → Bool
as_printed rows = both (eqb (length rows) 160) (every entry_printed 0 rows)

-- the index of LSP j does not fit its bits
abbrev pub over_in : List ℕ → ℕ → Bool
over_in indices j = leb (2 ^ lsp bits j) (lsp indices j)

-- the lowest LSP whose index is too large, or 0
unfoldable pub too_large_field : List ℕ → ℕ
too_large_field indices = lowest (over_in indices) 10

-- ten indices in Hz: at place i stands LSP i+1
abbrev pub hz_at : List ℕ → ℕ → ℕ
hz_at indices i = hz_of (i + 1) (lsp indices (i + 1))

-- ten indices in Hz, or the refusal
unfoldable pub hertz_of : List ℕ → Result (List ℕ) Refusal
hertz_of indices =
    unless (eqb (too_large_field indices) 0) (Err (TooLarge (too_large_field indices))) (Ok (tabulate (hz_at indices) 10))

-- the Hz that are answered, and of a refusal nothing but 0
abbrev pub hz_in : Result (List ℕ) Refusal → List ℕ
hz_in (Ok hz) = hz
hz_in (Err e) = tabulate (λ k. 0) 10

-- the refusal's number, 0 where there is none
abbrev pub refusal_of : Result (List ℕ) Refusal → ℕ
refusal_of (Ok hz) = 0
refusal_of (Err (TooLarge j)) = 2

-- what the refusal tells: LSP j is field j
abbrev pub tells_of : Result (List ℕ) Refusal → List ℕ
tells_of (Ok hz) = []
tells_of (Err (TooLarge j)) = j ∷ []

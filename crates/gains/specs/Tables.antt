-- The two tables of gains as they are printed, index 0 first (3.4, 3.6), one line for each printed column.
use Rattle.std.specs.Prelude.{List, [], ◌∷◌, ℕ, ℤ, pos, neg_ℤ}

-- a number as printed, and one printed with a minus sign
abbrev pub plus : ℕ → ℤ
plus n = pos n

abbrev pub minus : ℕ → ℤ
minus n = neg_ℤ (pos n)

-- stochastic code gain (3.4). Index 10 is printed 98 in our copy (document 01, "Gains")
unfoldable pub cg_table : List ℤ
cg_table =
    minus 1330 ∷ minus 870 ∷ minus 660 ∷ minus 520 ∷ minus 418 ∷ minus 340 ∷ minus 278 ∷ minus 224 ∷
    minus 178 ∷ minus 136 ∷ minus 98 ∷ minus 64 ∷ minus 35 ∷ minus 13 ∷ minus 3 ∷ minus 1 ∷
    plus 1 ∷ plus 3 ∷ plus 13 ∷ plus 35 ∷ plus 64 ∷ plus 98 ∷ plus 136 ∷ plus 178 ∷
    plus 224 ∷ plus 278 ∷ plus 340 ∷ plus 418 ∷ plus 520 ∷ plus 660 ∷ plus 870 ∷ plus 1330 ∷ []

-- adaptive code gain in thousandths (3.6)
unfoldable pub pg_table : List ℤ
pg_table =
    minus 993 ∷ minus 831 ∷ minus 693 ∷ minus 555 ∷ minus 414 ∷ minus 229 ∷ plus 0 ∷ plus 139 ∷
    plus 255 ∷ plus 368 ∷ plus 457 ∷ plus 531 ∷ plus 601 ∷ plus 653 ∷ plus 702 ∷ plus 745 ∷
    plus 780 ∷ plus 816 ∷ plus 850 ∷ plus 881 ∷ plus 915 ∷ plus 948 ∷ plus 983 ∷ plus 1020 ∷
    plus 1062 ∷ plus 1117 ∷ plus 1193 ∷ plus 1289 ∷ plus 1394 ∷ plus 1540 ∷ plus 1765 ∷ plus 1991 ∷ []

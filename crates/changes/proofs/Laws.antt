-- The lines letter for letter, and that they fit.
-- Assumes nothing.
use mathlib.Core.Path.{◌≡◌, ◌∙◌, sym, refl, ap}
use mathlib.Core.List.{List, ◌++◌, append_assoc}
use Prim.Native.Nat.{ℕ, ◌<◌, ◌≤◌}
use native.Mathlib.Omega.{arith}
use lib.Dec.{eqb}
use lib.ListN.{length, length-append}
use Rattle.std.specs.Prelude.{Result, Ok, Err}
use Rattle.laws.proofs.Chosen.{chosen}
use Rattle.text.specs.Ascii.{ascii}
use Rattle.text.specs.Decimal.{decimal, digits_in}
use Rattle.text.proofs.Decimal.{decimal_most}
use Rattle.blocks.specs.Walk.{longest}
use Rattle.kept.specs.Planning.{number_of}
use Rattle.kept.specs.declared.Unsalvaged.{Unsalvaged}
use Rattle.kept.specs.declared.Unsalvaged.TheVariants.{TooLong, WrongBuffer, NoHead, NoFrame}
use Rattle.salvage.specs.Salvaging.{salvage_of, refusal_of}
use Rattle.salvage.specs.declared.Changes.{Changes}
use Rattle.salvage.specs.declared.Salvaged.{Salvaged}
use Rattle.salvage.specs.declared.Salvaged.TheVariants.{Sound, Mended}
use Rattle.salvage.proofs.Results.{Small, changes_small}
use Rattle.changes.specs.Promised.{last_lines, ChangesTold, ChangesFit}
use Rattle.changes.specs.Telling.{dropped_line, kept_line, end_line, refused_line, dropped_text, changes_text}
use Rattle.changes.specs.Telling.{telling_of}
use Rattle.changes.proofs.Texts.{dropped_none, dropped_some}

-- the last two lines
last_lines_lem : (c : Changes) → kept_line c.frames ++ end_line c.end ≡ last_lines c
unfolding kept_line end_line
last_lines_lem c =
    append_assoc (ascii "kept ") (decimal c.frames ++ ascii " frames\n")
    (ascii "end written at " ++ (decimal c.end ++ ascii "\n"))
    ∙ ap (λ (t : List ℕ). ascii "kept " ++ t)
    (append_assoc (decimal c.frames) (ascii " frames\n")
    (ascii "end written at " ++ (decimal c.end ++ ascii "\n")))

-- two lines
two_lines : (c : Changes) → c.dropped ≡ 0 → changes_text c ≡ last_lines c
unfolding changes_text
two_lines c z =
    ap (λ (t : List ℕ). t ++ (kept_line c.frames ++ end_line c.end)) (sym (dropped_none c.dropped c.from z))
    ∙ last_lines_lem c

-- three lines
three_lines : (c : Changes) → 0 < c.dropped
    → changes_text c
    ≡ ascii "dropped "
    ++ (decimal c.dropped ++ (ascii " bytes from " ++ (decimal c.from ++ (ascii "\n" ++ last_lines c))))
unfolding changes_text dropped_line
three_lines c l =
    ap (λ (t : List ℕ). t ++ (kept_line c.frames ++ end_line c.end))
    (sym (dropped_some c.dropped c.from (λ z. omega (arith, z, l))))
    ∙ ap (λ (t : List ℕ). dropped_line c.dropped c.from ++ t) (last_lines_lem c)
    ∙ simp append_assoc

-- a refusal's number in its line
one_line : (x : Result Salvaged Unsalvaged) → refusal_of x ≡ 1 → telling_of x ≡ ascii "refused 1\n"
unfolding refused_line decimal digits_in
one_line (Ok Sound) e = absurd (omega arith)
one_line (Ok (Mended c)) e = absurd (omega arith)
one_line (Err why) e = ap refused_line e

twelve_line : (x : Result Salvaged Unsalvaged) → refusal_of x ≡ 12 → telling_of x ≡ ascii "refused 12\n"
unfolding refused_line decimal digits_in
twelve_line (Ok Sound) e = absurd (omega arith)
twelve_line (Ok (Mended c)) e = absurd (omega arith)
twelve_line (Err why) e = ap refused_line e

pub changes_told : ChangesTold
unfolding ChangesTold
changes_told s room c = (
  λ e. ap telling_of e,
  λ e z. ap telling_of e ∙ two_lines c z,
  λ e l. ap telling_of e ∙ three_lines c l,
  λ e. one_line (salvage_of s room) e,
  λ e. twelve_line (salvage_of s room) e,
)

-- a number up to 65,536 has at most five digits
few_digits : (n : ℕ) → n ≤ longest → length (decimal n) ≤ 5
few_digits n l = decimal_most n 5 (omega arith) (omega arith)

-- the line of what was dropped, where there is one
dropped_short : (bytes from : ℕ) → bytes ≤ longest → from ≤ longest → length (dropped_text bytes from) ≤ 31
unfolding dropped_text dropped_line
dropped_short bytes from a b =
    let m = few_digits bytes a in
    let n = few_digits from b in
    chosen (λ (t : List ℕ). length t ≤ 31) (eqb bytes 0) (λ t. omega arith)
    (λ t. simp length-append (omega (arith, m, n)))

-- all lines of some changes
changes_short : (c : Changes) → Small c → length (changes_text c) ≤ 128
unfolding changes_text kept_line end_line
changes_short c s =
    let a = dropped_short c.dropped c.from s.dropped s.from in
    let b = few_digits c.frames s.frames in
    let e = few_digits c.end s.end in
    simp length-append (omega (arith, a, b, e))

-- the line of a refusal
refused_short : (why : Unsalvaged) → length (refused_line (number_of why)) ≤ 128
unfolding refused_line decimal digits_in
refused_short TooLong = omega arith
refused_short WrongBuffer = omega arith
refused_short NoHead = omega arith
refused_short NoFrame = omega arith

pub changes_fit : ChangesFit
unfolding ChangesFit
changes_fit s room = go (salvage_of s room) refl
  where
    go : (x : Result Salvaged Unsalvaged) → salvage_of s room ≡ x → length (telling_of x) ≤ 128
    go (Ok Sound) e = omega arith
    go (Ok (Mended c)) e = changes_short c (changes_small s room c e)
    go (Err why) e = refused_short why

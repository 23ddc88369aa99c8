-- The text of each form with its numbers is that line, and the lines one after the other are the whole.
-- Assumes nothing.
use mathlib.Core.Path.{◌≡◌, ◌∙◌, sym, refl, ap}
use mathlib.Core.List.{List, [], ◌∷◌, append_assoc}
use Prim.Native.Nat.{ℕ}
use borrow.Author.Tests.{eq-eqb, ne_eqb}
use Rattle.std.specs.Prelude.{Result}
use Rattle.kept.specs.declared.Unsalvaged.{Unsalvaged}
use Rattle.text.specs.Ascii.{ascii}
use Rattle.text.proofs.Laid.{Put, put_as, put_then}
use Rattle.lines.specs.Forms.{filled_in}
use Rattle.salvage.specs.declared.Changes.{Changes}
use Rattle.salvage.specs.declared.Salvaged.{Salvaged}
use Rattle.changes.specs.Telling.{dropped_line, kept_line, end_line, refused_line, dropped_text, changes_text}
use Rattle.changes.specs.Telling.{telling_of}

-- eight numbers of which a form shows the first
abbrev one : ℕ → List ℕ
one n = n ∷ 0 ∷ 0 ∷ 0 ∷ 0 ∷ 0 ∷ 0 ∷ 0 ∷ []

-- or the first two
abbrev two : ℕ → ℕ → List ℕ
two m n = m ∷ n ∷ 0 ∷ 0 ∷ 0 ∷ 0 ∷ 0 ∷ 0 ∷ []

-- the returns of `dropped`, `kept`, `end` and `refused`
pub dropped_text_lem : (bytes from : ℕ) → filled_in (two bytes from) (ascii "dropped \0 bytes from \u{1}\n")
    ≡ dropped_line bytes from
unfolding filled_in dropped_line
dropped_text_lem bytes from = refl

pub kept_text : (frames : ℕ) → filled_in (one frames) (ascii "kept \0 frames\n") ≡ kept_line frames
unfolding filled_in kept_line
kept_text frames = refl

pub end_text : (place : ℕ) → filled_in (one place) (ascii "end written at \0\n") ≡ end_line place
unfolding filled_in end_line
end_text place = refl

pub refused_text : (number : ℕ) → filled_in (one number) (ascii "refused \0\n") ≡ refused_line number
unfolding filled_in refused_line
refused_text number = refl

-- the returns of `put_dropped`: nothing, or the line
pub dropped_none : (bytes from : ℕ) → bytes ≡ 0 → [] ≡ dropped_text bytes from
unfolding dropped_text
dropped_none bytes from e = rw (eq-eqb bytes 0 e)

pub dropped_some : (bytes from : ℕ) → (bytes ≡ 0 → ⊥) → dropped_line bytes from ≡ dropped_text bytes from
unfolding dropped_text
dropped_some bytes from n = rw (ne_eqb bytes 0 n)

-- the return of `put_changes`
pub changes_put : (o : List ℕ) (at : ℕ) (c : Changes) {o₁ o₂ o₃ : List ℕ} {a₁ a₂ a₃ : ℕ}
    → Put o at (dropped_text c.dropped c.from) a₁ o₁ → Put o₁ a₁ (kept_line c.frames) a₂ o₂
    → Put o₂ a₂ (end_line c.end) a₃ o₃ → Put o at (changes_text c) a₃ o₃
unfolding changes_text
changes_put o at c p q r =
    put_as o at _ _
    (append_assoc (dropped_text c.dropped c.from) (kept_line c.frames) (end_line c.end))
    (put_then o at _ _ (put_then o at _ _ p q) r)

-- the returns of `put`: the answer is one of its cases
pub told_as : (o : List ℕ) (at : ℕ) (x : Result Salvaged Unsalvaged) {y : Result Salvaged Unsalvaged} {text : List ℕ} {o' : List ℕ} {at' : ℕ} → x ≡ y
    → text ≡ telling_of y → Put o at text at' o' → Put o at (telling_of x) at' o'
told_as o at x e t p = put_as o at _ (telling_of x) (t ∙ ap telling_of (sym e)) p

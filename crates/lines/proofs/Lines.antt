-- The lines: the text of each form with its numbers is that line.
-- Assumes nothing.
use mathlib.Core.Path.{◌≡◌, ◌∙◌, sym, refl, ap, ap₂}
use mathlib.Core.Bool.{false}
use mathlib.Core.List.{List, [], ◌∷◌, ◌++◌, append_assoc}
use Prim.Native.Nat.{ℕ, ◌≤◌}
use borrow.Author.Tests.{eq-eqb, ne_eqb, le-ltb}
use lib.Dec.{ltb}
use lib.ListN.{get_or}
use native.Mathlib.Omega.{arith}
use Rattle.frame.specs.Correction.{number_of_case}
use Rattle.frame.specs.declared.Correction.{Correction}
use Rattle.frame.specs.declared.Correction.TheVariants.{Clean, Parity, Data}
use Rattle.blocks.specs.Refusals.{refusal_of, told_of}
use Rattle.blocks.specs.Walk.{longest}
use Rattle.blocks.specs.declared.Cause.{Cause}
use Rattle.blocks.specs.declared.Heading.{Heading}
use Rattle.blocks.specs.declared.Told.{Told}
use Rattle.blocks.specs.declared.Told.TheVariants.{Nothing}
use Rattle.text.specs.Ascii.{ascii}
use Rattle.text.specs.Decimal.{decimal}
use Rattle.lines.specs.Lines.{pair_line, head_line, fields, letter_of, corrected, rest_of, frame_line, last_line}
use Rattle.lines.specs.Lines.{numbers_shown, refusal_line, refused_line, line_of}
use Rattle.lines.specs.Forms.{filled_in}
use Rattle.lines.specs.declared.Line.{Line}
use Rattle.lines.specs.declared.Said.{Said}

-- eight numbers of which a form shows the first two
abbrev two : ℕ → ℕ → List ℕ
two m n = m ∷ n ∷ 0 ∷ 0 ∷ 0 ∷ 0 ∷ 0 ∷ 0 ∷ []

-- or three
abbrev three : ℕ → ℕ → ℕ → List ℕ
three l m n = l ∷ m ∷ n ∷ 0 ∷ 0 ∷ 0 ∷ 0 ∷ 0 ∷ []

-- the return of `head`
pub head_text : (h : Heading) (frames : ℕ)
    → filled_in (three h.unit h.number frames) (ascii "unit \0 recording \u{1} frames \u{2}\n")
    ≡ head_line h frames
unfolding filled_in head_line pair_line
head_text h frames = simp append_assoc

-- the return of `last`
pub last_text : (repaired breaks : ℕ) → filled_in (two repaired breaks) (ascii "repaired \0 breaks \u{1}\n")
    ≡ last_line repaired breaks
unfolding filled_in last_line pair_line
last_text repaired breaks = simp append_assoc

-- numbers, each after a space, and then a text
unfoldable spaced : List ℕ → List ℕ → List ℕ
spaced [] t = t
spaced (n ∷ ns) t = ascii " " ++ (decimal n ++ spaced ns t)

-- fields and then a text are that
spaced_out : (ns t : List ℕ) → fields ns ++ t ≡ spaced ns t
unfolding fields spaced
spaced_out [] t = refl
spaced_out (n ∷ ns) t =
    append_assoc (ascii " " ++ decimal n) (fields ns) t
    ∙ ap (λ (l : List ℕ). ascii " " ++ (decimal n ++ l)) (spaced_out ns t)

-- a refusal's line, as its numbers come after one another
refusal_spaced : (number : ℕ) (shown : List ℕ)
    → refusal_line number shown ≡ ascii "refused " ++ (decimal number ++ (ascii " at" ++ spaced shown (ascii "\n")))
unfolding refusal_line
refusal_spaced number shown =
    append_assoc (ascii "refused " ++ decimal number ++ ascii " at") (fields shown) (ascii "\n")
    ∙ ap (λ (l : List ℕ). (ascii "refused " ++ decimal number ++ ascii " at") ++ l) (spaced_out shown (ascii "\n"))
    ∙ append_assoc (ascii "refused " ++ decimal number) (ascii " at") (spaced shown (ascii "\n"))

-- with a place
pub place_line : (number place : ℕ)
    → refusal_line number (place ∷ [])
    ≡ ascii "refused " ++ (decimal number ++ (ascii " at " ++ (decimal place ++ ascii "\n")))
unfolding spaced
place_line number place = refusal_spaced number (place ∷ [])

-- with a place and a size
pub size_line : (number place size : ℕ)
    → refusal_line number (place ∷ size ∷ [])
    ≡ ascii "refused "
    ++ (decimal number ++ (ascii " at " ++ (decimal place ++ (ascii " " ++ (decimal size ++ ascii "\n")))))
unfolding spaced
size_line number place size = refusal_spaced number (place ∷ size ∷ [])

-- the return of `refusal_at`
pub place_text : (number place : ℕ) → filled_in (two number place) (ascii "refused \0 at \u{1}\n")
    ≡ refusal_line number (place ∷ [])
unfolding filled_in
place_text number place = sym (place_line number place)

-- the return of `refusal_with_size`
pub size_text : (number place size : ℕ) → filled_in (three number place size) (ascii "refused \0 at \u{1} \u{2}\n")
    ≡ refusal_line number (place ∷ size ∷ [])
unfolding filled_in
size_text number place size = sym (size_line number place size)

-- the returns of `refusal`: what is told is one of its cases
pub shows_told : (number : ℕ) (t : Told) {u : Told} {text : List ℕ} → t ≡ u
    → text ≡ refusal_line number (numbers_shown u) → text ≡ refusal_line number (numbers_shown t)
shows_told number t e s = s ∙ ap (λ (u : Told). refusal_line number (numbers_shown u)) (sym e)

-- where nothing is told, the longest length of a recording is shown
pub shows_longest : (number : ℕ) (t : Told) {place : ℕ} {text : List ℕ} → t ≡ Nothing → place ≡ longest
    → text ≡ refusal_line number (place ∷ []) → text ≡ refusal_line number (numbers_shown t)
shows_longest number t e l s = shows_told number t e (rw (sym l) s)

-- the return of `refused`
pub shows_refused : (cause : Cause) {number : ℕ} {t : Told} {text : List ℕ} → number ≡ refusal_of cause
    → t ≡ told_of cause
    → text ≡ refusal_line number (numbers_shown t) → text ≡ refused_line cause
unfolding refused_line
shows_refused cause n t s = rw (sym n, sym t) s

-- the letters as bytes
abbrev byte_of : Correction → ℕ
byte_of Clean = 99
byte_of (Parity n) = 112
byte_of (Data f i) = 100

-- each is its letter
letter_byte : (c : Correction) → byte_of c ∷ [] ≡ letter_of c
letter_byte Clean = refl
letter_byte (Parity n) = refl
letter_byte (Data f i) = refl

-- the returns of `letter_of`: the correction is one of its cases
pub letter_told : (c : Correction) {d : Correction} {letter : ℕ} → c ≡ d → letter ≡ byte_of d → letter ∷ [] ≡ letter_of c
letter_told c {d} e w = ap (λ (b : ℕ). b ∷ []) w ∙ letter_byte d ∙ ap letter_of (sym e)

-- no letter is one of the bytes that stand for a number
letter_large : (c : Correction) {letter : ℕ} → letter ∷ [] ≡ letter_of c → 8 ≤ letter
letter_large c {letter} e = go c (ap (λ (l : List ℕ). get_or l 0 0) e)
  where
    go : (d : Correction) → letter ≡ get_or (letter_of d) 0 0 → 8 ≤ letter
    go Clean w = omega (arith, w)
    go (Parity n) w = omega (arith, w)
    go (Data f i) w = omega (arith, w)

-- the returns of `frame`, by the letter and the number that were asked for
module _ (x : Said) {letter n : ℕ} (lettered : letter ∷ [] ≡ letter_of x.correction)
    (numbered : n ≡ number_of_case x.correction) where
  -- so it stands for itself
  shown : ltb letter 8 ≡ false
  shown = le-ltb letter 8 (letter_large x.correction lettered)

  -- the line of the frame with a text after its letter
  abbrev line : List ℕ → List ℕ
  line t = decimal x.number ++ (ascii " " ++ (decimal n ++ (ascii " " ++ (letter ∷ t))))

  -- it is that with the rest
  line_is : frame_line x ≡ line (rest_of x ++ ascii "\n")
  unfolding frame_line corrected spaced
  line_is =
      let c = fields (number_of_case x.correction ∷ []) in
      let l = letter_of x.correction in
      let r = rest_of x ++ ascii "\n" in
      append_assoc (decimal x.number ++ corrected x.correction) (rest_of x) (ascii "\n")
      ∙ append_assoc (decimal x.number) (corrected x.correction) r
      ∙ ap (λ (t : List ℕ). decimal x.number ++ t)
      (append_assoc (c ++ ascii " ") l r ∙ append_assoc c (ascii " ") (l ++ r)
      ∙ spaced_out (number_of_case x.correction ∷ []) (ascii " " ++ (l ++ r)))
      ∙ ap₂ (λ (m : ℕ) (k : List ℕ). decimal x.number ++ (ascii " " ++ (decimal m ++ (ascii " " ++ (k ++ r)))))
      (sym numbered) (sym lettered)

  -- of a frame that is refused the refusal is said
  pub said_refused : (x.refusal ≡ 0 → ⊥)
      → filled_in (three x.number n x.refusal) (0 ∷ 32 ∷ 1 ∷ 32 ∷ letter ∷ ascii " refused \u{2}\n") ≡ frame_line x
  unfolding filled_in rest_of
  said_refused w = rw shown (sym (line_is ∙ ap line rest))
    where
      rest : rest_of x ++ ascii "\n" ≡ ascii " refused " ++ (decimal x.refusal ++ ascii "\n")
      rest = rw (ne_eqb x.refusal 0 w) (append_assoc (ascii " refused ") (decimal x.refusal) (ascii "\n"))

  -- of one that is heard its numbers
  pub said_heard : x.refusal ≡ 0
      → filled_in (x.number ∷ n ∷ x.mark ∷ x.sy ∷ x.first ∷ x.second ∷ x.third ∷ x.fourth ∷ [])
      (0 ∷ 32 ∷ 1 ∷ 32 ∷ letter ∷ ascii " \u{2} \u{3} \u{4} \u{5} \u{6} \u{7}\n") ≡ frame_line x
  unfolding filled_in rest_of spaced
  said_heard z = rw shown (sym (line_is ∙ ap line rest))
    where
      ms : List ℕ
      ms = x.mark ∷ x.sy ∷ x.first ∷ x.second ∷ x.third ∷ x.fourth ∷ []

      rest : rest_of x ++ ascii "\n" ≡ spaced ms (ascii "\n")
      rest = rw (eq-eqb x.refusal 0 z) (spaced_out ms (ascii "\n"))

-- the returns of `form_of`: the line is one of its cases
pub shows_line : (line : Line) {one : Line} {text : List ℕ} → line ≡ one → text ≡ line_of one → text ≡ line_of line
shows_line line e s = s ∙ ap line_of (sym e)

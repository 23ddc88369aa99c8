-- What the definitions of specs/ say, for whoever cites the contract of `list`.
-- Assumes nothing.
use mathlib.Core.Path.{◌≡◌, ◌∙◌, sym, refl, ap}
use mathlib.Core.Bool.{Bool, true, false, cond}
use mathlib.Core.List.{List, [], ◌∷◌, ◌++◌, append_assoc, append-nil}
use Prim.Native.Nat.{ℕ, ◌≤◌}
use native.Mathlib.Omega.{arith}
use borrow.Author.Tests.{eq-eqb, ne_eqb, eqb-true}
use lib.Dec.{eqb}
use lib.ListN.{length, drop, length-append}
use Rattle.std.specs.Prelude.{Ok, Err}
use Rattle.listing.specs.declared.Unlisted.TheVariants.{WrongLength}
use Rattle.text.specs.Ascii.{ascii}
use Rattle.text.specs.Decimal.{decimal, digits_in}
use Rattle.blocks.specs.Walk.{walked_of}
use Rattle.blocks.specs.Frames.{frames_of}
use Rattle.blocks.specs.Walk.{Ending}
use Rattle.values.specs.declared.Outcome.TheVariants.{Expansion}
use Rattle.frame.specs.Correction.{number_of_case}
use Rattle.frame.specs.declared.Correction.{Correction}
use Rattle.passes.specs.declared.Hearing.{Hearing}
use Rattle.lines.specs.Lines.{fields, letter_of, corrected, rest_of, frame_line, refused_line}
use Rattle.lines.proofs.Lines.{place_line, size_line}
use Rattle.listing.specs.Listing.{said_of, sound_text, text_by, listing_of, room, listed_of, listing_left, refusal_of}
use Rattle.listing.specs.Promised.{ListingStands, FaultsListed, LetterListed, RefusedListingStays}

-- a text is answered only for a buffer that has room for it, and its length is the listing's
pub text_answered : (s : List ℕ) (n m : ℕ) → listed_of s n ≡ Ok m → (n ≡ room) × (m ≡ length (listing_of s))
unfolding listed_of
text_answered s n m e = go (eqb n room) refl e
  where
    go : (b : Bool) → eqb n room ≡ b → cond b (Ok (length (listing_of s))) (Err WrongLength) ≡ Ok m
        → (n ≡ room) × (m ≡ length (listing_of s))
    go true t e = (eqb-true n room t, let l : length (listing_of s) ≡ m = cc in sym l)
    go false t e = absurd (let z : ◌≡◌ {A = ℕ} 0 1 = cc in omega arith)

-- the buffer then holds the listing, and after it what stood there
pub text_left : (s o : List ℕ) → length o ≡ room → listing_left s o ≡ listing_of s ++ drop (length (listing_of s)) o
unfolding listing_left
text_left s o e = rw (eq-eqb (length o) room e)

-- so the text answered is the first bytes of the buffer
pub listing_stands : ListingStands
unfolding ListingStands
listing_stands s o m e =
    let t = text_answered s (length o) m e in
    (t.1, text_left s o t.0 ∙ ap (λ (n : ℕ). listing_of s ++ drop n o) (sym t.1))

-- the listing by how the walk ends: of a refused recording it is the line of its cause
pub listing_by : (s : List ℕ) (e : Ending) → (walked_of s).ending ≡ e
    → listing_of s ≡ text_by e (sound_text (walked_of s).walk (frames_of s))
unfolding listing_of
listing_by s e ends = ap (λ (x : Ending). text_by x (sound_text (walked_of s).walk (frames_of s))) ends

-- so of each cause that a block's own bytes have
pub faults_listed : FaultsListed
unfolding FaultsListed refused_line decimal digits_in
faults_listed s p size = (
  λ e. listing_by s _ e ∙ place_line 9 p ∙ sym (append_assoc (ascii "refused 9 at ") (decimal p) (ascii "\n")),
  λ e. listing_by s _ e ∙ place_line 10 p ∙ sym (append_assoc (ascii "refused 10 at ") (decimal p) (ascii "\n")),
  λ e.
      let front = ascii "refused 11 at " ++ decimal p in
      listing_by s _ e ∙ size_line 11 p size
      ∙ sym (append_assoc (ascii "refused 11 at ") (decimal p) (ascii " " ++ (decimal size ++ ascii "\n")))
      ∙ sym (append_assoc front (ascii " ") (decimal size ++ ascii "\n"))
      ∙ sym (append_assoc (front ++ ascii " ") (decimal size) (ascii "\n")),
)

-- a number, a correction and its letter, one space apart
spaced : (n : ℕ) (c : Correction)
    → decimal n ++ corrected c ≡ decimal n ++ ascii " " ++ decimal (number_of_case c) ++ ascii " " ++ letter_of c
unfolding corrected fields
spaced n c =
    let d = decimal n in
    let m = ascii " " ++ decimal (number_of_case c) in
    let f = fields (number_of_case c ∷ []) in
    sym (append_assoc d (f ++ ascii " ") (letter_of c))
    ∙ ap (λ (t : List ℕ). t ++ letter_of c)
    (sym (append_assoc d f (ascii " "))
    ∙ ap (λ (t : List ℕ). t ++ ascii " ")
    (ap (λ (t : List ℕ). d ++ t) (append-nil m) ∙ sym (append_assoc d (ascii " ") (decimal (number_of_case c)))))

-- with 6 the rest is the refusal
six_listed : (n : ℕ) (h : Hearing) → h.values.outcome ≡ Expansion → rest_of (said_of n h) ≡ ascii " refused 6"
unfolding rest_of decimal digits_in
six_listed n h e = rw e

pub letter_listed : LetterListed
unfolding LetterListed frame_line
letter_listed n h = (
  ap (λ (t : List ℕ). t ++ rest_of (said_of n h) ++ ascii "\n") (spaced n h.reading.correction),
  six_listed n h,
)

-- a buffer of any other length is refused, and stays
pub refused_listing_stays : RefusedListingStays
unfolding RefusedListingStays listed_of listing_left
refused_listing_stays s o = ((told, refused), λ w. rw (ne_eqb (length o) room w))
  where
    told : refusal_of (cond (eqb (length o) room) (Ok (length (listing_of s))) (Err WrongLength)) ≡ 1 → length o ≡ room → ⊥
    told e long =
        let z : refusal_of (cond (eqb (length o) room) (Ok (length (listing_of s))) (Err WrongLength))
        ≡ 0 = rw (eq-eqb (length o) room long) in
        omega (arith, e, z)

    refused : (length o ≡ room → ⊥)
        → refusal_of (cond (eqb (length o) room) (Ok (length (listing_of s))) (Err WrongLength)) ≡ 1
    refused w = rw (ne_eqb (length o) room w)

-- the text answered is within the buffer
pub text_within : (s o o' : List ℕ) (m : ℕ) → Ok m ≡ listed_of s (length o) → o' ≡ listing_left s o → m ≤ length o'
text_within s o o' m e l =
    let t = text_answered s (length o) m (sym e) in
    rw (l ∙ text_left s o t.0) (simp length-append (omega (arith, t.1)))

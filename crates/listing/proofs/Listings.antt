-- The returns of `list`.
-- Assumes nothing.
use mathlib.Core.Path.{◌≡◌, ◌∙◌, sym, ap}
use mathlib.Core.List.{List, ◌++◌}
use Prim.Native.Nat.{ℕ, ◌+◌, ◌-◌, ◌<◌, ◌≤◌}
use native.Mathlib.Omega.{arith}
use borrow.Author.Tests.{eq-eqb, ne_eqb}
use lib.ListN.{length, drop, get_or}
use lib.Seq.{take_all}
use Rattle.std.specs.Prelude.{Ok, Err, Result}
use Rattle.listing.specs.declared.Unlisted.TheVariants.{WrongLength}
use Rattle.listing.specs.declared.Unlisted.{Unlisted}
use Rattle.values.specs.Values.{fresh_state}
use Rattle.values.specs.declared.State.{State}
use Rattle.blocks.specs.Walk.{walked_of}
use Rattle.blocks.specs.Frames.{frames_of}
use Rattle.blocks.specs.declared.Cause.{Cause}
use Rattle.blocks.specs.Walk.{Ending}
use Rattle.blocks.specs.declared.Walk.{Walk}
use Rattle.blocks.specs.declared.Walked.{Walked}
use Rattle.passes.specs.Pass.{begun_at}
use Rattle.passes.specs.declared.Pass.{Pass}
use Rattle.text.specs.Laid.{laid}
use Rattle.text.proofs.Laid.{Put, put_as, put_then}
use Rattle.lines.specs.Lines.{line_of}
use Rattle.lines.specs.declared.Line.TheVariants as Line
use Rattle.listing.specs.Listing.{head_of, body_of, sound_text, text_by, listing_of, room, listed_of, listing_left}
use Rattle.listing.specs.Promised.{ListingFits}
use Rattle.listing.proofs.Laws.{listing_by}
use Rattle.listing.proofs.Short.{listing_fits}

-- what is answered, and what the buffer holds then
abbrev pub Answered : List ℕ → List ℕ → Result ℕ Unlisted → List ℕ → Type 0
Answered s o r o' = (r ≡ listed_of s (length o)) × (o' ≡ listing_left s o)

-- a buffer of another length
pub wrong_length : (s o : List ℕ) → (length o ≡ room → ⊥) → Answered s o (Err WrongLength) o
unfolding listed_of listing_left
wrong_length s o w = (rw (ne_eqb (length o) room w), rw (ne_eqb (length o) room w))

-- a text laid at the start, where it fits
laid_front : (o t : List ℕ) → length t ≤ length o → laid o 0 t ≡ t ++ drop (length t) o
unfolding laid
laid_front o t h =
    let z : 0 + length t ≡ length t = omega arith in
    ap (λ (l : List ℕ). l ++ drop (0 + length t) o) (take_all (length o - 0) t (omega arith))
    ∙ ap (λ (n : ℕ). t ++ drop n o) z

module _ (s o : List ℕ) (bytes : (i : ℕ) → get_or s i 0 < 256) (long : length o ≡ room) where
  -- the whole listing, laid at the start
  listed_whole : {end : ℕ} {o' : List ℕ} → Put o 0 (listing_of s) end o' → Answered s o (Ok end) o'
  unfolding listed_of listing_left ListingFits
  listed_whole {end} {o'} p =
      let f : length (listing_of s) ≤ room = listing_fits s bytes in
      let e : end ≡ length (listing_of s) = omega (arith, p.0) in
      let l : length (listing_of s) ≤ length o = omega arith in (
        rw (eq-eqb (length o) room long) (ap Ok e),
        rw (eq-eqb (length o) room long)
            (p.1 ∙ laid_front o (listing_of s) l),
      )

  module _ {w : Walked} (is : w ≡ walked_of s) where
    text_is : (e : Ending) → w.ending ≡ e → text_by e (sound_text w.walk (frames_of s)) ≡ listing_of s
    text_is e ends =
        ap (λ (x : Walked). text_by e (sound_text x.walk (frames_of s))) is
        ∙ sym (listing_by s e (sym (ap (λ (x : Walked). x.ending) is) ∙ ends))

    -- a refused recording
    pub listed_refused : {cause : Cause} → w.ending ≡ Err cause → {end : ℕ} {o' : List ℕ}
        → Put o 0 (line_of (Line.Refused cause)) end o'
        → Answered s o (Ok end) o'
    listed_refused {cause} ends p = listed_whole (put_as o 0 (line_of (Line.Refused cause)) (listing_of s)
        (text_is (Err cause) ends) p)

    -- a sound one
    pub listed_sound : w.ending ≡ Ok tt → {end : ℕ} {o' : List ℕ} → Put o 0 (sound_text w.walk (frames_of s)) end o'
        → Answered s o (Ok end) o'
    listed_sound ends p = listed_whole (put_as o 0 (sound_text w.walk (frames_of s)) (listing_of s)
        (text_is (Ok tt) ends) p)

-- the return of `put_sound`: the first line, and then the frames, from a fresh state on
pub sound_put : (o : List ℕ) (w : Walk) (frames : List (List ℕ)) {fresh : State} {begun : Pass} → fresh ≡ fresh_state
    → begun ≡ begun_at w.voices fresh → {start end : ℕ} {o₁ o₂ : List ℕ} → Put o 0 (head_of w) start o₁
    → Put o₁ start (body_of begun.state frames) end o₂ → Put o 0 (sound_text w frames) end o₂
unfolding sound_text
sound_put o w frames {fresh} {begun} same is p q =
    put_as o 0 (head_of w ++ body_of begun.state frames) (sound_text w frames)
    (ap (λ (x : State). head_of w ++ body_of x frames) (ap (λ (x : Pass). x.state) is ∙ same))
    (put_then o 0 (head_of w) (body_of begun.state frames) p q)

-- The voice blocks from a place on, one block at a time, and the part of the bytes that the k-th is.
-- Assumes nothing.
use mathlib.Core.Path.{◌≡◌, ◌∙◌, sym, refl, ap, subst}
use mathlib.Core.List.{List, [], ◌∷◌, map}
use Prim.Native.Nat.{ℕ, zero, suc, ◌+◌, ◌-◌, ◌%◌, ◌<◌, ◌≤◌}
use native.Mathlib.Omega.{arith}
use native.Mathlib.Decide.{ℕ_discrete}
use borrow.Author.Tests.{eq-eqb, ne_eqb}
use lib.ListN.{length, get_or, get_or-map}
use Rattle.std.specs.Prelude.{Result, Ok, Err}
use Rattle.laws.proofs.Turns.{turns_once}
use Rattle.blocks.specs.Blocks.{block_at, part}
use Rattle.blocks.specs.Walk.{walked_of}
use Rattle.blocks.specs.Frames.{voice_in, voice_size, span_at, spans_with, spans_from, if_sound, spans_of}
use Rattle.blocks.specs.Frames.{nowhere, span_of}
use Rattle.blocks.specs.Frames.{bytes_at, voices_from, payloads_of, voice_block_of}
use Rattle.blocks.specs.declared.Cause.{Cause}
use Rattle.blocks.specs.declared.Block.{Block}
use Rattle.blocks.specs.declared.Block.TheVariants.{Head, Voice, End}
use Rattle.blocks.specs.declared.Heading.{Heading}
use Rattle.blocks.specs.declared.Span.{Span}
use Rattle.blocks.specs.declared.Walked.{Walked}
use Rattle.blocks.specs.Walk.{Ending}
use Rattle.blocks.proofs.Blocks.{Bounds, voice_held}

-- the returns of `voice_size`
module _ (s : List ℕ) (at : ℕ) where
  -- it goes by the block
  size_of : (b : Result Block Cause) → block_at s at ≡ b → voice_in b ≡ voice_size s at
  unfolding voice_size
  size_of b e = ap voice_in (sym e)

  -- a head has none
  pub head_no_voice : (h : Heading) → block_at s at ≡ Ok (Head h) → 0 ≡ voice_size s at
  head_no_voice h e = size_of (Ok (Head h)) e

  -- a voice block has its own
  pub voice_itself : (size : ℕ) → block_at s at ≡ Ok (Voice size) → size ≡ voice_size s at
  voice_itself size e = size_of (Ok (Voice size)) e

  -- an end has none
  pub end_no_voice : (n : ℕ) → block_at s at ≡ Ok (End n) → 0 ≡ voice_size s at
  end_no_voice n e = size_of (Ok (End n)) e

  -- nor has what is broken
  pub broken_no_voice : (cause : Cause) → block_at s at ≡ Err cause → 0 ≡ voice_size s at
  broken_no_voice cause e = size_of (Err cause) e

-- where the size is not 0, a voice block of that size stands
voice_there : (s : List ℕ) (at : ℕ) → (voice_size s at ≡ 0 → ⊥) → block_at s at ≡ Ok (Voice (voice_size s at))
unfolding voice_size
voice_there s at n = go (block_at s at) n
  where
    go : (b : Result Block Cause) → (voice_in b ≡ 0 → ⊥) → b ≡ Ok (Voice (voice_in b))
    go (Ok (Head h)) n = absurd (n refl)
    go (Ok (Voice size)) n = refl
    go (Ok (End told)) n = absurd (n refl)
    go (Err cause) n = absurd (n refl)

-- its bounds, of a size that was found
pub record Sized (s : List ℕ) (at size : ℕ) : Type 0 where
  pub fits : at + 6 + size ≤ length s
  pub least : 18 ≤ size
  pub whole : size % 18 ≡ 0

-- the block that it stands in
pub voice_bounds : (s : List ℕ) (at size : ℕ) → size ≡ voice_size s at → (size ≡ 0 → ⊥) → Bounds s at size 2
voice_bounds s at size e n =
    subst (λ (k : ℕ). Bounds s at k 2) (sym e) (voice_held s at (voice_size s at) (voice_there s at (λ z. n (e ∙ z)))
    ).0

-- a size that is not 0 has these bounds
pub voice_sized : (s : List ℕ) (at size : ℕ) → size ≡ voice_size s at → (size ≡ 0 → ⊥) → Sized s at size
voice_sized s at size e n =
    let t = voice_held s at (voice_size s at) (voice_there s at (λ z. n (e ∙ z))) in
    let f : at + 6 + size ≤ length s = rw e t.0.fits in
    let w : size % 18 ≡ 0 = rw e t.2 in
    record { fits = f; least = omega (arith, w); whole = w }

-- the places of the voice blocks are those of one step and the rest
pub spans_step : (s : List ℕ) (at : ℕ) → spans_from s at ≡ spans_with (spans_from s) at (voice_size s at)
unfolding spans_from
spans_step s at =
    turns_once [] (λ further at. spans_with further at (voice_size s at)) (λ at. length s - at) falls (suc (length s))
    at (omega arith)
  where
    falls : (g h : ℕ → List Span) (x : ℕ) → ((y : ℕ) → length s - y < length s - x → g y ≡ h y)
        → spans_with g x (voice_size s x) ≡ spans_with h x (voice_size s x)
    falls g h x same = go (ℕ_discrete (voice_size s x) 0)
      where
        go : Dec (voice_size s x ≡ 0) → spans_with g x (voice_size s x) ≡ spans_with h x (voice_size s x)
        go (yes z) = rw z
        go (no n) =
            let t = voice_sized s x (voice_size s x) refl n in
            rw (ne_eqb (voice_size s x) 0 n)
            (ap (λ (l : List Span). span_at x (voice_size s x) ∷ l)
            (same (x + 6 + voice_size s x) (omega (arith, t.fits))))

-- where no voice block stands there are none
pub spans_none : (s : List ℕ) (at size : ℕ) → size ≡ voice_size s at → size ≡ 0 → spans_from s at ≡ []
spans_none s at size e z = spans_step s at ∙ rw (eq-eqb (voice_size s at) 0 (sym e ∙ z))

-- where one stands there is its payload's, and then those from behind it on
pub spans_more : (s : List ℕ) (at size : ℕ) → size ≡ voice_size s at → (size ≡ 0 → ⊥)
    → spans_from s at ≡ span_at at size ∷ spans_from s (at + 6 + size)
spans_more s at size e n =
    spans_step s at ∙ rw (ne_eqb (voice_size s at) 0 (λ z. n (e ∙ z)))
    (ap (λ (z : ℕ). span_at at z ∷ spans_from s (at + 6 + z)) (sym e))

-- the same of the payloads
pub voices_none : (s : List ℕ) (at size : ℕ) → size ≡ voice_size s at → size ≡ 0 → voices_from s at ≡ []
unfolding voices_from
voices_none s at size e z = ap (map (bytes_at s)) (spans_none s at size e z)

-- and where one stands, its payload and then the rest
pub voices_more : (s : List ℕ) (at size : ℕ) → size ≡ voice_size s at → (size ≡ 0 → ⊥)
    → voices_from s at ≡ part s (at + 6) size ∷ voices_from s (at + 6 + size)
unfolding voices_from
voices_more s at size e n =
    let m : at + 6 + size - (at + 6) ≡ size = omega arith in
    ap (map (bytes_at s)) (spans_more s at size e n) ∙ ap (λ (k : ℕ). part s (at + 6) k ∷ voices_from s (at + 6 + size))
    m

-- the loop of `span_from`: of the voice blocks from `at` on, the one with `before` before it is the k-th from the
-- start on
pub record Seeking (s : List ℕ) (voices k at before : ℕ) : Type 0 where
  pub rest : get_or (spans_from s at) before nowhere ≡ get_or (spans_from s voices) k nowhere

-- at the start
pub seeking_start : (s : List ℕ) (voices k : ℕ) → Seeking s voices k voices k
seeking_start s voices k = record { rest = refl }

module _ {s : List ℕ} {voices k at before : ℕ} (size : ℕ) (e : size ≡ voice_size s at)
    (l : Seeking s voices k at before) where
  -- where no voice block stands there is no k-th
  pub seeking_none : size ≡ 0 → nowhere ≡ get_or (spans_from s voices) k nowhere
  seeking_none z = sym (ap (λ (x : List Span). get_or x before nowhere) (spans_none s at size e z)) ∙ l.rest

  -- the one with none before it is the k-th
  pub seeking_found : (size ≡ 0 → ⊥) → before ≡ 0 → span_at at size ≡ get_or (spans_from s voices) k nowhere
  seeking_found n z =
      sym (ap (λ (x : List Span). get_or x 0 nowhere) (spans_more s at size e n))
      ∙ ap (λ (m : ℕ). get_or (spans_from s at) m nowhere) (sym z) ∙ l.rest

  -- past one that is not it
  pub seeking_on : (size ≡ 0 → ⊥) → (before ≡ 0 → ⊥) → Seeking s voices k (at + 6 + size) (before - 1)
  seeking_on n z =
      let m : suc (before - 1) ≡ before = omega arith in
      record {
        rest =
            sym (ap (λ (x : List Span). get_or x (suc (before - 1)) nowhere) (spans_more s at size e n))
            ∙ ap (λ (m : ℕ). get_or (spans_from s at) m nowhere) m ∙ l.rest;
      }

-- those of a recording: none of a refused one, of a sound one those after its head
pub spans_refused : (s : List ℕ) (cause : Cause) → (walked_of s).ending ≡ Err cause → spans_of s ≡ []
unfolding spans_of
spans_refused s cause e = ap (λ (x : Ending). if_sound x (spans_from s (walked_of s).walk.voices) []) e

-- of a sound one
pub spans_sound : (s : List ℕ) → (walked_of s).ending ≡ Ok tt → spans_of s ≡ spans_from s (walked_of s).walk.voices
unfolding spans_of
spans_sound s e = ap (λ (x : Ending). if_sound x (spans_from s (walked_of s).walk.voices) []) e

-- so with the payloads: of a refused one
pub payloads_refused : (s : List ℕ) (cause : Cause) → (walked_of s).ending ≡ Err cause → payloads_of s ≡ []
unfolding payloads_of
payloads_refused s cause e = ap (map (bytes_at s)) (spans_refused s cause e)

-- of a sound one
pub payloads_sound : (s : List ℕ) → (walked_of s).ending ≡ Ok tt
    → payloads_of s ≡ voices_from s (walked_of s).walk.voices
unfolding payloads_of voices_from
payloads_sound s e = ap (map (bytes_at s)) (spans_sound s e)

-- the returns of `voice_span`
pub span_refused : (s : List ℕ) (k : ℕ) (w : Walked) (cause : Cause) → w ≡ walked_of s → w.ending ≡ Err cause
    → nowhere ≡ span_of s k
unfolding span_of
span_refused s k w cause i e =
    sym (ap (λ (x : List Span). get_or x k nowhere) (spans_refused s cause
    (ap (λ (x : Walked). x.ending) (sym i) ∙ e)))

-- of a sound recording, the k-th from behind its head
pub span_sound : (s : List ℕ) (k : ℕ) (w : Walked) → w ≡ walked_of s → w.ending ≡ Ok tt
    → get_or (spans_from s w.walk.voices) k nowhere ≡ span_of s k
unfolding span_of
span_sound s k w i e =
    ap (λ (x : Walked). get_or (spans_from s x.walk.voices) k nowhere) i
    ∙ sym (ap (λ (x : List Span). get_or x k nowhere) (spans_sound s (ap (λ (x : Walked). x.ending) (sym i) ∙ e)))

-- a place that is answered is within the bytes
pub record Placed (s : List ℕ) (r : Span) : Type 0 where
  pub ordered : r.from ≤ r.to
  pub within : r.to ≤ length s

-- nowhere is
nowhere_placed : (s : List ℕ) → Placed s nowhere
nowhere_placed s = record { ordered = omega arith; within = omega arith }

-- each of the places from a place on is
spans_placed : (s : List ℕ) (k at : ℕ) → Placed s (get_or (spans_from s at) k nowhere)
spans_placed s zero at = go (voice_size s at) refl (ℕ_discrete (voice_size s at) 0)
  where
    go : (size : ℕ) → size ≡ voice_size s at → Dec (size ≡ 0) → Placed s (get_or (spans_from s at) 0 nowhere)
    go size e (yes z) = subst (λ (x : List Span). Placed s (get_or x 0 nowhere)) (sym (spans_none s at size e z))
        (nowhere_placed s)
    go size e (no n) =
        let t = voice_sized s at size e n in
        subst (λ (x : List Span). Placed s (get_or x 0 nowhere)) (sym (spans_more s at size e n))
        (record { ordered = omega arith; within = t.fits })
spans_placed s (suc k) at = go (voice_size s at) refl (ℕ_discrete (voice_size s at) 0) (λ next. spans_placed s k next)
  where
    go : (size : ℕ) → size ≡ voice_size s at → Dec (size ≡ 0)
        → ((next : ℕ) → Placed s (get_or (spans_from s next) k nowhere))
        → Placed s (get_or (spans_from s at) (suc k) nowhere)
    go size e (yes z) rest =
        subst (λ (x : List Span). Placed s (get_or x (suc k) nowhere)) (sym (spans_none s at size e z))
        (nowhere_placed s)
    go size e (no n) rest =
        subst (λ (x : List Span). Placed s (get_or x (suc k) nowhere)) (sym (spans_more s at size e n))
        (rest (at + 6 + size))

-- so each that is answered is
pub span_placed : (s : List ℕ) (k : ℕ) → Placed s (span_of s k)
unfolding span_of
span_placed s k = go (walked_of s).ending refl
  where
    go : (x : Ending) → (walked_of s).ending ≡ x → Placed s (get_or (spans_of s) k nowhere)
    go (Ok _) e =
        subst (λ (x : List Span). Placed s (get_or x k nowhere)) (sym (spans_sound s e))
        (spans_placed s k (walked_of s).walk.voices)
    go (Err cause) e =
        subst (λ (x : List Span). Placed s (get_or x k nowhere)) (sym (spans_refused s cause e)) (nowhere_placed s)

-- what `voice_block` needs of the place that it was told, and what it returns
module _ (s : List ℕ) (k : ℕ) (r : Span) (e : r ≡ span_of s k) where
  -- it is within the bytes
  pub told_placed : Placed s r
  told_placed = subst (Placed s) (sym e) (span_placed s k)

  -- the bytes there are the k-th voice block
  pub told_bytes : bytes_at s r ≡ voice_block_of s k
  unfolding voice_block_of
  told_bytes = ap (bytes_at s) e

-- the part at the k-th place is the k-th payload
pub block_payload : (s : List ℕ) (k : ℕ) → voice_block_of s k ≡ get_or (payloads_of s) k []
unfolding voice_block_of payloads_of span_of
block_payload s k = sym (get_or-map (bytes_at s) (spans_of s) k nowhere)

-- The frames found one after the other are the frames of the voice blocks.
-- Assumes nothing.
use mathlib.Core.Path.{◌≡◌, ◌∙◌, sym, refl, ap}
use mathlib.Core.List.{List, [], ◌∷◌, ◌++◌}
use Prim.Native.Nat.{ℕ, zero, suc, ◌+◌, ◌-◌, ◌*◌, ◌/◌, ◌<◌, ◌≤◌}
use native.Mathlib.Omega.{arith}
use native.Mathlib.Nat.{add-zero}
use native.Mathlib.Decide.{ℕ_discrete, dec_lt}
use borrow.Author.Tests.{eq-eqb, ne_eqb, le-leb, lt-leb}
use lib.ListN.{length, take, drop, length-drop}
use lib.Seq.{take-take, take-add, drop_at, drop-drop, length-take-le}
use Rattle.std.specs.Prelude.{Option, Some, None, Ok, Err}
use Rattle.laws.proofs.Turns.{turns_once}
use Rattle.blocks.specs.Blocks.{part}
use Rattle.blocks.specs.Walk.{walked_of}
use Rattle.blocks.specs.Frames.{voice_size, voices_from, cut, eighteens, frames_in, frames_of, found_at}
use Rattle.blocks.specs.Frames.{frames_with, frames_from}
use Rattle.blocks.specs.declared.Cause.{Cause}
use Rattle.blocks.specs.declared.Found.{Found}
use Rattle.blocks.proofs.Voices.{Sized, voice_sized, voices_none, voices_more, payloads_refused}
use Rattle.blocks.proofs.Voices.{payloads_sound}

-- the returns of `find`
module _ (s : List ℕ) (at left : ℕ) where
  -- none left, and no voice block there
  pub no_voice : (size : ℕ) → left ≡ 0 → size ≡ voice_size s at → size ≡ 0 → None ≡ found_at s at left
  unfolding found_at
  no_voice size z e n = rw (eq-eqb left 0 z, eq-eqb (voice_size s at) 0 (sym e ∙ n))

  -- none left: the first frame of the voice block there
  pub first_frame : (size : ℕ) → left ≡ 0 → size ≡ voice_size s at → (size ≡ 0 → ⊥)
      → Some (record { first = at + 6; rest = size - 18 }) ≡ found_at s at left
  unfolding found_at
  first_frame size z e n =
      rw (eq-eqb left 0 z, ne_eqb (voice_size s at) 0 (λ q. n (e ∙ q))) (ap (λ (m : ℕ). let f : Found = record { first = at + 6; rest = m - 18 } in Some f) e)

  -- fewer bytes left than a frame
  pub too_few_left : (left ≡ 0 → ⊥) → left < 18 → None ≡ found_at s at left
  unfolding found_at
  too_few_left z l = rw (ne_eqb left 0 z, lt-leb 18 left l)

  -- the bytes end before the frame does
  pub too_short : (left ≡ 0 → ⊥) → 18 ≤ left → length s < at + 18 → None ≡ found_at s at left
  unfolding found_at
  too_short z l h = rw (ne_eqb left 0 z, le-leb 18 left l, lt-leb (at + 18) (length s) h)

  -- the next frame of the voice block
  pub next_frame : (left ≡ 0 → ⊥) → 18 ≤ left → at + 18 ≤ length s → Some (record { first = at; rest = left - 18 }) ≡ found_at s at left
  unfolding found_at
  next_frame z l h = rw (ne_eqb left 0 z, le-leb 18 left l, le-leb (at + 18) (length s) h)

-- a frame that was found stands within the bytes, and not before the place
pub record Within (s : List ℕ) (at first : ℕ) : Type 0 where
  pub on : at ≤ first
  pub fits : first + 18 ≤ length s

-- so it is of every frame that is found
pub found_within : (s : List ℕ) (at left : ℕ) (found : Found) → found_at s at left ≡ Some found → Within s at found.first
found_within s at left found e = go (ℕ_discrete left 0)
  where
    never : (None ≡ found_at s at left) → Within s at found.first
    never o = absurd (let z : ◌≡◌ {A = ℕ} 0 1 = cc in omega arith)

    entered : left ≡ 0 → Dec (voice_size s at ≡ 0) → Within s at found.first
    entered z (yes n) = never (no_voice s at left (voice_size s at) z refl n)
    entered z (no n) =
        let t = voice_sized s at (voice_size s at) refl n in
        let o = first_frame s at left (voice_size s at) z refl n in
        let p : at + 6 ≡ found.first = cc in
        record { on = omega arith; fits = omega (arith, t.fits, t.least) }

    room : (left ≡ 0 → ⊥) → 18 ≤ left → Dec (length s < at + 18) → Within s at found.first
    room z l (yes h) = never (too_short s at left z l h)
    room z l (no h) =
        let o = next_frame s at left z l (omega arith) in
        let p : at ≡ found.first = cc in
        record { on = omega arith; fits = omega arith }

    few : (left ≡ 0 → ⊥) → Dec (left < 18) → Within s at found.first
    few z (yes l) = never (too_few_left s at left z l)
    few z (no l) = room z (omega arith) (dec_lt (length s) (at + 18))

    go : Dec (left ≡ 0) → Within s at found.first
    go (yes z) = entered z (ℕ_discrete (voice_size s at) 0)
    go (no z) = few z (dec_lt left 18)

-- the frames are those of one step and the rest
pub frames_step : (s : List ℕ) (at left : ℕ) → frames_from s at left
    ≡ frames_with s (λ p. frames_from s p.0 p.1) (found_at s at left)
unfolding frames_from
frames_step s at left =
    turns_once [] (λ further p. frames_with s further (found_at s p.0 p.1)) (λ p. length s - p.0) falls
    (suc (length s)) (at, left) (omega arith)
  where
    go : (g h : ℕ × ℕ → List (List ℕ)) (a l : ℕ) → ((y : ℕ × ℕ) → length s - y.0 < length s - a → g y ≡ h y)
        → (f : Option Found)
        → found_at s a l ≡ f → frames_with s g f ≡ frames_with s h f
    go g h a l same (Some found) e =
        let w = found_within s a l found e in
        ap (λ (x : List (List ℕ)). part s found.first 18 ∷ x) (same (found.first + 18, found.rest) (omega (arith, w.on, w.fits)))
    go g h a l same None e = refl

    falls : (g h : ℕ × ℕ → List (List ℕ)) (x : ℕ × ℕ) → ((y : ℕ × ℕ) → length s - y.0 < length s - x.0 → g y ≡ h y)
        → frames_with s g (found_at s x.0 x.1) ≡ frames_with s h (found_at s x.0 x.1)
    falls g h x same = go g h x.0 x.1 same (found_at s x.0 x.1) refl

-- where none is found there are none
pub frames_none : (s : List ℕ) (at left : ℕ) → found_at s at left ≡ None → frames_from s at left ≡ []
frames_none s at left e = frames_step s at left ∙ ap (frames_with s (λ p. frames_from s p.0 p.1)) e

-- where one is found there is that one, and then those found behind it
pub frames_more : (s : List ℕ) (at left : ℕ) (found : Found) → found_at s at left ≡ Some found
    → frames_from s at left ≡ part s found.first 18 ∷ frames_from s (found.first + 18) found.rest
frames_more s at left found e = frames_step s at left ∙ ap (frames_with s (λ p. frames_from s p.0 p.1)) e

-- a voice block's frames are its payload cut, and then come those of what follows it
block_frames : (s : List ℕ) (n at : ℕ) → at + 18 * n ≤ length s
    → frames_from s at (18 * n) ≡ cut n (part s at (18 * n)) ++ frames_from s (at + 18 * n) 0
unfolding cut
block_frames s zero at h = ap (λ (m : ℕ). frames_from s m 0) (sym (add-zero at))
block_frames s (suc n) at h =
    let z : 18 * suc n ≡ 0 → ⊥ = λ q. omega arith in
    frames_more s at (18 * suc n) _
    (sym (next_frame s at (18 * suc n) z (omega arith) (omega arith)))
    ∙ ap (λ (m : ℕ). part s at 18 ∷ frames_from s (at + 18) m) (omega arith)
    ∙ ap (λ (l : List (List ℕ)). part s at 18 ∷ l) (block_frames s n (at + 18) (omega arith))
    ∙ ap (λ (m : ℕ). part s at 18 ∷ (cut n (part s (at + 18) (18 * n)) ++ frames_from s m 0)) (omega arith)
    ∙ ap (λ (f : List ℕ). f ∷ (cut n (part s (at + 18) (18 * n)) ++ frames_from s (at + 18 * suc n) 0))
    (sym (take-take 18 (18 * suc n) (drop at s) (omega arith)))
    ∙ ap (λ (p : List ℕ). take 18 (part s at (18 * suc n)) ∷ (cut n p ++ frames_from s (at + 18 * suc n) 0))
    (sym after)
  where
    long : length (take 18 (drop at s)) ≡ 18
    long = length-take-le 18 (drop at s) (simp length-drop (omega arith))

    after : drop 18 (part s at (18 * suc n)) ≡ part s (at + 18) (18 * n)
    after =
        ap (λ (m : ℕ). drop 18 (take m (drop at s))) (let e : 18 * suc n ≡ 18 + 18 * n = omega arith in e)
        ∙ ap (drop 18) (take-add 18 (18 * n) (drop at s))
        ∙ drop_at (take 18 (drop at s)) (take (18 * n) (drop 18 (drop at s))) 18 long
        ∙ ap (take (18 * n)) (drop-drop 18 at s)

-- so from a place between blocks the frames found are the frames of the voice blocks
frames_voices : (s : List ℕ) (n at : ℕ) → length s - at < n → frames_from s at 0 ≡ frames_in (voices_from s at)
unfolding frames_in
frames_voices s zero at h = absurd (omega arith)
frames_voices s (suc n) at h =
    go (voice_size s at) refl (ℕ_discrete (voice_size s at) 0) (λ next l. frames_voices s n next l)
  where
    go : (size : ℕ) → size ≡ voice_size s at → Dec (size ≡ 0)
        → ((next : ℕ) → length s - next < n → frames_from s next 0 ≡ frames_in (voices_from s next))
        → frames_from s at 0 ≡ frames_in (voices_from s at)
    go size e (yes z) rest = frames_none s at 0 (sym (no_voice s at 0 size refl e z))
        ∙ sym (ap frames_in (voices_none s at size e z))
    go size e (no z) rest =
        frames_more s at 0 _ (sym (first_frame s at 0 size refl e z))
        ∙ sym (frames_more s (at + 6) size _
        (sym (next_frame s (at + 6) size z t.least (omega (arith, t.fits, t.least)))))
        ∙ ap (frames_from s (at + 6)) by ∙ block_frames s (size / 18) (at + 6) (omega (arith, t.fits, by))
        ∙ ap (λ (m : ℕ). cut (size / 18) (part s (at + 6) m) ++ frames_from s (at + 6 + m) 0) (sym by)
        ∙ ap (λ (m : ℕ). cut (m / 18) (part s (at + 6) size) ++ frames_from s (at + 6 + size) 0) (sym long)
        ∙ ap (λ (l : List (List ℕ)). eighteens (part s (at + 6) size) ++ l)
        (rest (at + 6 + size) (omega (arith, t.fits)))
        ∙ sym (ap frames_in (voices_more s at size e z))
      where
        t : Sized s at size
        t = voice_sized s at size e z

        by : size ≡ 18 * (size / 18)
        by = omega (arith, t.whole)

        long : length (part s (at + 6) size) ≡ size
        long = length-take-le size (drop (at + 6) s) (simp length-drop (omega (arith, t.fits)))

-- the frames of a recording: none of a refused one, of a sound one those found from behind its head on
pub frames_refused : (s : List ℕ) (cause : Cause) → (walked_of s).ending ≡ Err cause → frames_of s ≡ []
unfolding frames_of frames_in
frames_refused s cause e = ap frames_in (payloads_refused s cause e)

-- of a sound one
pub frames_sound : (s : List ℕ) → (walked_of s).ending ≡ Ok tt → frames_of s ≡ frames_from s (walked_of s).walk.voices 0
unfolding frames_of
frames_sound s e =
    ap frames_in (payloads_sound s e) ∙ sym (frames_voices s (suc (length s)) (walked_of s).walk.voices (omega arith))

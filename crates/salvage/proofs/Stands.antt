-- Voice blocks made of the first frames of other voice blocks, at the same places: what stands in one stands in the
-- other.
-- Assumes nothing.
use mathlib.Core.Path.{◌≡◌, ◌∙◌, sym, refl, ap, ap₂, subst}
use mathlib.Core.List.{List, [], ◌∷◌, ◌++◌, map}
use Prim.Native.Nat.{ℕ, zero, suc, ◌+◌, ◌-◌, ◌*◌, ◌/◌, ◌<◌, ◌≤◌, min}
use native.Mathlib.Omega.{arith}
use native.Mathlib.Decide.{ℕ_discrete, dec_le}
use lib.ListN.{length, get_or, take, drop, length-take, length-drop}
use lib.Seq.{length-take-le}
use Rattle.blocks.specs.Blocks.{part}
use Rattle.blocks.specs.Frames.{voice_size, spans_from, bytes_at, voices_from}
use Rattle.blocks.specs.Made.{voice_blocks}
use Rattle.blocks.proofs.Passed.{blocks_none, blocks_more}
use Rattle.blocks.proofs.Voices as Voices
use Rattle.blocks.proofs.Voices.{voice_sized, spans_none, spans_more, voices_none, voices_more}
use Rattle.kept.specs.Keeping.{frames_at, first_frames}
use Rattle.laws.proofs.Taken.{take_least, take_length_take}
use Rattle.kept.proofs.First.{first_none}

-- no voice blocks, no places of them
spans_empty : (r : List ℕ) (at : ℕ) → voices_from r at ≡ [] → spans_from r at ≡ []
spans_empty r at e = go (ℕ_discrete (voice_size r at) 0)
  where
    go : Dec (voice_size r at ≡ 0) → spans_from r at ≡ []
    go (yes z) = spans_none r at (voice_size r at) refl z
    go (no n) =
        absurd (let l = ap length (sym (voices_more r at (voice_size r at) refl n) ∙ e) in omega (arith, l))

-- the first bytes of a part are as many of the bytes there
first_part : (s : List ℕ) (at size n z : ℕ) → z ≡ length (take n (part s at size))
    → part s at z ≡ take n (part s at size)
first_part s at size n z e =
    let f = take_least n size (drop at s) in
    ap (part s at) (e ∙ ap length f) ∙ take_length_take (min n size) (drop at s) ∙ sym f

-- a voice block of the result that was made of the first frames of a part of the input, at the same place
module _ (r s : List ℕ) (at m size : ℕ) (ps : List (List ℕ)) (n : voice_size r at ≡ 0 → ⊥)
    (e : voices_from r at ≡ take (18 * m) (part s (at + 6) size) ∷ ps) where
  found : voices_from r at ≡ part r (at + 6) (voice_size r at) ∷ voices_from r (at + 6 + voice_size r at)
  found = voices_more r at (voice_size r at) refl n

  first : part r (at + 6) (voice_size r at) ≡ take (18 * m) (part s (at + 6) size)
  first = ap (λ (l : List (List ℕ)). get_or l 0 []) (sym found ∙ e)

  pub others : voices_from r (at + 6 + voice_size r at) ≡ ps
  others = ap (drop 1) (sym found ∙ e)

  -- it has the lesser of the two sizes
  pub first_size : voice_size r at ≡ length (take (18 * m) (part s (at + 6) size))
  first_size =
      let t = voice_sized r at (voice_size r at) refl n in
      sym (length-take-le (voice_size r at) (drop (at + 6) r) (simp length-drop (omega (arith, t.fits))))
      ∙ ap length first

  -- and is what stands there in the input
  pub stands_first : voices_from r (at + 6 + voice_size r at) ≡ map (bytes_at s) (spans_from r (at + 6 + voice_size r at))
      → voices_from r at ≡ map (bytes_at s) (spans_from r at)
  stands_first rest =
      let k : voice_size r at ≡ at + 6 + voice_size r at - (at + 6) = omega arith in
      found
      ∙ ap₂ (λ (x : List ℕ) (y : List (List ℕ)). x ∷ y)
      (first ∙ sym (first_part s (at + 6) size (18 * m) (voice_size r at) first_size) ∙ ap (part s (at + 6)) k) rest
      ∙ ap (map (bytes_at s)) (sym (spans_more r at (voice_size r at) refl n))

-- where no voice block follows, none is to be found
stands_none : (r s : List ℕ) (at : ℕ) → voices_from r at ≡ [] → voices_from r at ≡ map (bytes_at s) (spans_from r at)
stands_none r s at e = e ∙ ap (map (bytes_at s)) (sym (spans_empty r at e))

-- voice blocks made of the first frames of the blocks there in the input
module _ (r s : List ℕ) (stop left : ℕ) where
  pub stand : (n at m : ℕ) → length r - at < n → at + length (voice_blocks (voices_from s at)) ≡ stop
      → voices_from r at ≡ first_frames (voices_from s at ++ frames_at s stop left) m
      → voices_from r at ≡ map (bytes_at s) (spans_from r at)
  unfolding first_frames
  stand zero at m l i e = absurd (omega arith)
  stand (suc n) at zero l i e = stands_none r s at (e ∙ first_none (voices_from s at ++ frames_at s stop left))
  stand (suc n) at (suc m) l i e =
      go (ℕ_discrete (voice_size r at) 0) (ℕ_discrete (voice_size s at) 0) left refl
      (λ next k h j f. stand n next k h j f)
    where
      go : Dec (voice_size r at ≡ 0) → Dec (voice_size s at ≡ 0) → (x : ℕ) → left ≡ x
          → ((next k : ℕ) → length r - next < n → next + length (voice_blocks (voices_from s next)) ≡ stop
          → voices_from r next ≡ first_frames (voices_from s next ++ frames_at s stop left) k
          → voices_from r next ≡ map (bytes_at s) (spans_from r next))
          → voices_from r at ≡ map (bytes_at s) (spans_from r at)
      go (yes z) d x q further = stands_none r s at (voices_none r at (voice_size r at) refl z)
      go (no z) (yes y) zero q further =
          let v = voices_none s at (voice_size s at) refl y in
          stands_none r s at
          (e ∙ ap₂ (λ (a : List (List ℕ)) (b : ℕ). first_frames (a ++ frames_at s stop b) (suc m)) v q)
      go (no z) (yes y) (suc x) q further =
          let v = voices_none s at (voice_size s at) refl y in
          let b = ap (λ (a : List (List ℕ)). length (voice_blocks a)) v in
          let k : stop ≡ at = omega (arith, i, b, blocks_none) in
          let f : voices_from r at ≡ take (18 * suc m) (part s (at + 6) (18 * suc x)) ∷ []
          = e ∙ ap₂ (λ (a : List (List ℕ)) (b : ℕ). first_frames (a ++ frames_at s stop b) (suc m)) v q
          ∙ ap (λ (a : ℕ). take (18 * suc m) (part s (a + 6) (18 * suc x)) ∷ []) k in
          stands_first r s at (suc m) (18 * suc x) [] z f
          (stands_none r s (at + 6 + voice_size r at) (others r s at (suc m) (18 * suc x) [] z f))
      go (no z) (no y) x q further = more (dec_le (voice_size s at) (18 * suc m))
        where
          t : Voices.Sized s at (voice_size s at)
          t = voice_sized s at (voice_size s at) refl y

          long : length (part s (at + 6) (voice_size s at)) ≡ voice_size s at
          long = length-take-le (voice_size s at) (drop (at + 6) s) (simp length-drop (omega (arith, t.fits)))

          v : voices_from s at ≡ part s (at + 6) (voice_size s at) ∷ voices_from s (at + 6 + voice_size s at)
          v = voices_more s at (voice_size s at) refl y

          rest : List (List ℕ)
          rest =
              first_frames (voices_from s (at + 6 + voice_size s at) ++ frames_at s stop left)
              (suc m - length (part s (at + 6) (voice_size s at)) / 18)

          f : voices_from r at ≡ take (18 * suc m) (part s (at + 6) (voice_size s at)) ∷ rest
          f = e ∙ ap (λ (a : List (List ℕ)). first_frames (a ++ frames_at s stop left) (suc m)) v

          size : voice_size r at ≡ length (take (18 * suc m) (part s (at + 6) (voice_size s at)))
          size = first_size r s at (suc m) (voice_size s at) rest z f

          tail : voices_from r (at + 6 + voice_size r at) ≡ rest
          tail = others r s at (suc m) (voice_size s at) rest z f

          more : Dec (voice_size s at ≤ 18 * suc m) → voices_from r at ≡ map (bytes_at s) (spans_from r at)
          more (yes h) =
              let a = length-take (18 * suc m) (part s (at + 6) (voice_size s at)) in
              let w : voice_size r at ≡ voice_size s at = omega (arith, size, a, long, h) in
              let c = ap (λ (u : List (List ℕ)). length (voice_blocks u)) v in
              let d = blocks_more (part s (at + 6) (voice_size s at)) (voices_from s (at + 6 + voice_size s at)) in
              let u = voice_sized r at (voice_size r at) refl z in
              let next : at + 6 + voice_size s at ≡ at + 6 + voice_size r at = omega (arith, w) in
              stands_first r s at (suc m) (voice_size s at) rest z f
              (further (at + 6 + voice_size r at) (suc m - length (part s (at + 6) (voice_size s at)) / 18)
              (omega (arith, u.fits))
              (subst (λ (b : ℕ). b + length (voice_blocks (voices_from s b)) ≡ stop) next (omega (arith, i, c, d, long)))
              (tail ∙ ap (λ (b : ℕ).
              first_frames (voices_from s b ++ frames_at s stop left)
              (suc m - length (part s (at + 6) (voice_size s at)) / 18)) next))
          more (no h) =
              let o : suc m - length (part s (at + 6) (voice_size s at)) / 18 ≡ 0 = omega (arith, long, h) in
              let g = first_none (voices_from s (at + 6 + voice_size s at) ++ frames_at s stop left) in
              stands_first r s at (suc m) (voice_size s at) rest z f
              (stands_none r s (at + 6 + voice_size r at)
              (tail
              ∙ ap (first_frames (voices_from s (at + 6 + voice_size s at) ++ frames_at s stop left)) o ∙ g))

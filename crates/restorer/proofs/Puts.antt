-- Blocks laid one after the other: the voice blocks of a recording, as far as some frames reach, and the whole.
-- Assumes nothing.
use mathlib.Core.Path.{◌≡◌, ◌∙◌, sym, refl, ap, ap₂}
use mathlib.Core.List.{List, [], ◌∷◌, ◌++◌, append_assoc, append-nil}
use Prim.Native.Nat.{ℕ, zero, suc, ◌+◌, ◌-◌, ◌*◌, ◌/◌, ◌%◌, ◌<◌, ◌≤◌, min}
use native.Mathlib.Omega.{arith}
use native.Mathlib.Decide.{ℕ_discrete}
use lib.ListN.{length, take, drop, length-drop}
use lib.Seq.{length-take-le}
use Rattle.std.specs.Prelude.{Some, None}
use Rattle.text.specs.Laid.{laid, after}
use Rattle.text.proofs.Laid.{laid_none, laid_then, after_then, Put, put_as, put_nothing, put_then}
use Rattle.text.proofs.Laid.{put_length, put_within}
use Rattle.blocks.specs.Blocks.{part}
use Rattle.blocks.specs.Walk.{after_head}
use Rattle.blocks.specs.Frames.{voice_size, voices_from, found_at}
use Rattle.blocks.specs.Made.{word_bytes, block, head_block, voice_blocks, end_block}
use Rattle.blocks.proofs.Frames.{no_voice, first_frame}
use Rattle.blocks.proofs.Voices.{voice_sized, voices_none, voices_more}
use Rattle.blocks.specs.declared.Found.{Found}
use Rattle.kept.specs.Keeping.{frames_at, first_frames}
use Rattle.salvage.specs.Steps.{bytes_before}
use Rattle.kept.specs.Steps.{reach_of}
use Rattle.kept.specs.declared.Keep.{Keep}
use Rattle.laws.proofs.Taken.{take_least}
use Rattle.kept.proofs.First.{first_none, first_more}

-- a header and a payload of that size are a voice block
pub voice_put : (o : List ℕ) (at size : ℕ) (p : List ℕ) {o₁ o₂ : List ℕ} {a₁ a₂ : ℕ} → size ≡ length p
    → Put o at (word_bytes size ++ (2 ∷ 0 ∷ [])) a₁ o₁ → Put o₁ a₁ p a₂ o₂ → Put o at (block 2 p) a₂ o₂
voice_put o at size p e a b =
    put_as o at ((word_bytes size ++ (2 ∷ 0 ∷ [])) ++ p) (block 2 p)
    (ap (λ (n : ℕ). (word_bytes n ++ (2 ∷ 0 ∷ [])) ++ p) e) (put_then o at (word_bytes size ++ (2 ∷ 0 ∷ [])) p a b)

-- ---- the loop of `put_voices`

-- the first frame found from a place between blocks is that of the voice block there
pub record Entered (s : List ℕ) (at first rest : ℕ) : Type 0 where
  pub starts : first ≡ at + 6
  pub size : rest + 18 ≡ voice_size s at
  pub fits : first + (rest + 18) ≤ length s
  pub whole : (rest + 18) % 18 ≡ 0

pub found_voice : (s : List ℕ) (at : ℕ) (found : Found) → found_at s at 0 ≡ Some found
    → Entered s at found.first found.rest
found_voice s at found e = go (ℕ_discrete (voice_size s at) 0)
  where
    go : Dec (voice_size s at ≡ 0) → Entered s at found.first found.rest
    go (yes z) =
        let n = no_voice s at 0 (voice_size s at) refl refl z ∙ e in
        absurd (let z : ◌≡◌ {A = ℕ} 0 1 = cc in omega arith)
    go (no z) =
        let m = first_frame s at 0 (voice_size s at) refl refl z ∙ e in
        let t = voice_sized s at (voice_size s at) refl z in
        let a : at + 6 ≡ found.first = cc in
        let b : voice_size s at - 18 ≡ found.rest = cc in
        let c : found.rest + 18 ≡ voice_size s at = omega (arith, b, t.least) in
        record {
          starts = sym a;
          size = c;
          fits = omega (arith, a, c, t.fits);
          whole = ap (λ (n : ℕ). n % 18) c ∙ t.whole;
        }

-- where none is found, no voice block stands
found_none : (s : List ℕ) (at : ℕ) → found_at s at 0 ≡ None → voice_size s at ≡ 0
found_none s at e = go (ℕ_discrete (voice_size s at) 0)
  where
    go : Dec (voice_size s at ≡ 0) → voice_size s at ≡ 0
    go (yes z) = z
    go (no z) =
        let n = first_frame s at 0 (voice_size s at) refl refl z ∙ e in
        absurd (let z : ◌≡◌ {A = ℕ} 0 1 = cc in omega arith)

-- the voice blocks from a place on, as far as n frames reach
abbrev blocks_to : List ℕ → ℕ → ℕ → List ℕ
blocks_to s at n = voice_blocks (first_frames (voices_from s at) n)

-- what is still to be laid, laid from here, makes the whole
pub record Laying (o : List ℕ) (start : ℕ) (s : List ℕ) (frames : ℕ) (out : List ℕ) (end at left : ℕ) : Type 0 where
  pub here : laid out end (blocks_to s at (left / 18)) ≡ laid o start (blocks_to s (after_head 0) frames)
  pub place : after out end (blocks_to s at (left / 18)) ≡ after o start (blocks_to s (after_head 0) frames)
  pub within : end ≤ length out
  pub long : length out ≡ length o
  pub whole : left % 18 ≡ 0

-- before the first block all is to be laid
pub laying_start : (o : List ℕ) (start : ℕ) (s : List ℕ) (frames : ℕ) → start ≤ length o
    → Laying o start s frames o start 14 (18 * frames)
laying_start o start s frames l =
    let e : 18 * frames / 18 ≡ frames = omega arith in
    record {
      here = ap (λ (n : ℕ). laid o start (blocks_to s (after_head 0) n)) e;
      place = ap (λ (n : ℕ). after o start (blocks_to s (after_head 0) n)) e;
      within = l;
      long = refl;
      whole = omega arith;
    }

module _ {o : List ℕ} {start : ℕ} {s : List ℕ} {frames : ℕ} {out : List ℕ} {end at left : ℕ}
    (p : Laying o start s frames out end at left) where
  -- where nothing is left, all is laid
  laid_all : blocks_to s at (left / 18) ≡ [] → Put o start (blocks_to s (after_head 0) frames) end out
  laid_all e =
      let n : end ≡ after out end [] = omega (arith, p.within) in (
        n ∙ ap (after out end) (sym e) ∙ p.place,
        sym (laid_none out end) ∙ ap (laid out end) (sym e) ∙ p.here,
      )

  -- no frame is left
  pub laying_done : left ≤ 0 → Put o start (blocks_to s (after_head 0) frames) end out
  unfolding voice_blocks
  laying_done l =
      let z : left / 18 ≡ 0 = omega arith in
      laid_all (ap (blocks_to s at) z ∙ ap voice_blocks (first_none (voices_from s at)))

  -- no voice block is left
  pub laying_none : found_at s at 0 ≡ None → Put o start (blocks_to s (after_head 0) frames) end out
  unfolding voice_blocks first_frames
  laying_none e =
      laid_all
      (ap (λ (x : List (List ℕ)). voice_blocks (first_frames x (left / 18)))
      (voices_none s at (voice_size s at) refl (found_none s at e)))

  module _ (first rest kept : ℕ) (l : 0 < left) (e : found_at s at 0 ≡ Some (record { first = first; rest = rest })) (k : kept ≡ min (rest + 18) left)
    where
      entered : Entered s at first rest
      entered = found_voice s at _ e

      -- the payload that is laid
      payload : part s (at + 6) kept ≡ take (18 * (left / 18)) (part s (at + 6) (rest + 18))
      payload =
          let e : kept ≡ min (18 * (left / 18)) (rest + 18) = omega (arith, k, p.whole) in
          ap (part s (at + 6)) e ∙ sym (take_least (18 * (left / 18)) (rest + 18) (drop (at + 6) s))

      -- the block and the rest of the blocks
      blocks_on : blocks_to s at (left / 18)
          ≡ block 2 (part s (at + 6) kept) ++ blocks_to s (first + (rest + 18)) ((left - kept) / 18)
      unfolding voice_blocks
      blocks_on =
          let t = entered in
          let n : rest + 18 ≡ 0 → ⊥ = λ z. omega arith in
          let long : length (part s (at + 6) (rest + 18)) ≡ rest + 18 =
          length-take-le (rest + 18) (drop (at + 6) s) (simp length-drop (omega (arith, t.starts, t.fits))) in
          let next : at + 6 + (rest + 18) ≡ first + (rest + 18) = omega (arith, t.starts) in
          let fewer : left / 18 - length (part s (at + 6) (rest + 18)) / 18 ≡ (left - kept) / 18
          = ap (λ (m : ℕ). left / 18 - m / 18) long ∙ omega (arith, p.whole, t.whole) in
          ap (λ (x : List (List ℕ)). voice_blocks (first_frames x (left / 18))) (voices_more s at (rest + 18) t.size n)
          ∙ ap voice_blocks
          (first_more (part s (at + 6) (rest + 18)) (voices_from s (at + 6 + (rest + 18))) (left / 18)
          (omega (arith, p.whole)))
          ∙ ap₂ (λ (x : List ℕ) (y : List ℕ). block 2 x ++ y) (sym payload)
          (ap₂ (blocks_to s) next fewer)

      -- a turn lays a block
      pub laying_on : {out' : List ℕ} {end' : ℕ}
          → Put out end (block 2 (take (first + kept - first) (drop first s))) end' out'
          → Laying o start s frames out' end' (first + (rest + 18)) (left - kept)
      laying_on {out'} {end'} q =
          let m : first + kept - first ≡ kept = omega arith in
          let same : take (first + kept - first) (drop first s) ≡ part s (at + 6) kept
          = ap₂ (λ (x y : ℕ). take x (drop y s)) m entered.starts in
          let r : Put out end (block 2 (part s (at + 6) kept)) end' out'
          = put_as out end _ (block 2 (part s (at + 6) kept)) (ap (block 2) same) q in
          record {
            here =
                ap₂ (λ (x : List ℕ) (y : ℕ). laid x y (blocks_to s (first + (rest + 18)) ((left - kept) / 18))) r.1
                r.0
                ∙ laid_then out end (block 2 (part s (at + 6) kept))
                (blocks_to s (first + (rest + 18)) ((left - kept) / 18))
                ∙ ap (laid out end) (sym blocks_on) ∙ p.here;
            place =
                ap₂ (λ (x : List ℕ) (y : ℕ). after x y (blocks_to s (first + (rest + 18)) ((left - kept) / 18))) r.1
                r.0
                ∙ after_then out end (block 2 (part s (at + 6) kept))
                (blocks_to s (first + (rest + 18)) ((left - kept) / 18))
                ∙ ap (after out end) (sym blocks_on) ∙ p.place;
            within = put_within out end _ r;
            long = put_length out end _ r ∙ p.long;
            whole = omega (arith, k, p.whole, entered.whole);
          }

-- ---- the block of the last frames

-- no frames, no block
pub rest_none : (o : List ℕ) (end : ℕ) (s : List ℕ) (at frames : ℕ) → end ≤ length o → frames ≡ 0
    → Put o end (voice_blocks (frames_at s at frames)) end o
unfolding voice_blocks
rest_none o end s at frames l e =
    put_as o end [] (voice_blocks (frames_at s at frames)) (ap (λ (n : ℕ). voice_blocks (frames_at s at n)) (sym e))
    (put_nothing o end (omega arith))

-- some, their block
pub rest_put : (o : List ℕ) (end : ℕ) (s : List ℕ) (at frames : ℕ) {o' : List ℕ} {end' : ℕ} → (frames ≡ 0 → ⊥)
    → Put o end (block 2 (take (at + 6 + 18 * frames - (at + 6)) (drop (at + 6) s))) end' o'
    → Put o end (voice_blocks (frames_at s at frames)) end' o'
unfolding voice_blocks
rest_put o end s at zero n q = absurd (n refl)
rest_put o end s at (suc frames) n q =
    let m : at + 6 + 18 * suc frames - (at + 6) ≡ 18 * suc frames = omega arith in
    put_as o end _ (voice_blocks (frames_at s at (suc frames)))
    (ap (λ (x : ℕ). block 2 (take x (drop (at + 6) s))) m
    ∙ sym (append-nil (block 2 (part s (at + 6) (18 * suc frames)))))
    q

-- the end of that block is within the bytes
pub rest_within : (at frames long : ℕ) → reach_of at frames ≤ long → (frames ≡ 0 → ⊥) → at + 6 + 18 * frames ≤ long
rest_within at zero long l n = absurd (n refl)
rest_within at (suc frames) long l n = l

-- ---- the whole

-- what stands before the end, piece after piece
before_pieces : (s : List ℕ) (k : Keep)
    → (head_block k.heading ++ blocks_to s (after_head 0) k.frames) ++ voice_blocks (frames_at s k.at k.rest)
    ≡ bytes_before s k
unfolding bytes_before
before_pieces s k =
    append_assoc (head_block k.heading) (blocks_to s (after_head 0) k.frames)
    (voice_blocks (frames_at s k.at k.rest))

-- a head, the blocks, what is left of one, and the end
pub write_put : (o s : List ℕ) (k : Keep) {o₁ o₂ o₃ o₄ : List ℕ} {a₁ a₂ a₃ a₄ : ℕ}
    → Put o 0 (head_block k.heading) a₁ o₁ → Put o₁ a₁ (blocks_to s (after_head 0) k.frames) a₂ o₂
    → Put o₂ a₂ (voice_blocks (frames_at s k.at k.rest)) a₃ o₃ → Put o₃ a₃ (end_block k.frames) a₄ o₄
    → (a₃ ≡ after o 0 (bytes_before s k)) × (o₄ ≡ laid o 0 (bytes_before s k ++ end_block k.frames))
write_put o s k {o₃ = o₃} {a₃ = a₃} p q r e =
    let b : Put o 0 (bytes_before s k) a₃ o₃
    = put_as o 0 _ (bytes_before s k) (before_pieces s k) (put_then o 0 _ _ (put_then o 0 _ _ p q) r) in
    (b.0, (put_then o 0 (bytes_before s k) (end_block k.frames) b e).1)

-- Where the voice blocks of a recording stand, that their frames are all its frames, and what its counts are sums of.
-- Assumes nothing.
use mathlib.Core.Path.{◌≡◌, ◌∙◌, sym, refl, ap, ap₂, subst}
use mathlib.Core.List.{List, [], ◌∷◌, ◌++◌}
use Prim.Native.Nat.{ℕ, zero, suc, ◌+◌, ◌-◌, ◌*◌, ◌/◌, ◌%◌, ◌<◌, ◌≤◌}
use native.Mathlib.Omega.{arith}
use native.Mathlib.Nat.{suc-add, zero-add}
use native.Mathlib.Decide.{ℕ_discrete}
use lib.ListN.{length, get_or, take, drop, length-append, length-drop, length-map, get_or-eq_default}
use lib.Seq.{length-take-le, take-append-le, drop-append-le}
use Rattle.std.specs.Prelude.{Ok, Err}
use Rattle.laws.specs.Turns.{turns}
use Rattle.blocks.specs.Blocks.{block_at, part}
use Rattle.blocks.specs.Walk.{after_head, step_of, walk_from, walked_of}
use Rattle.blocks.specs.Frames.{voice_size, spans_from, spans_of, nowhere, span_of, bytes_at, voices_from}
use Rattle.blocks.specs.Frames.{payloads_of, voice_block_of}
use Rattle.blocks.specs.Frames.{cut, eighteens, frames_in, frames_of}
use Rattle.blocks.specs.Made.{voice_blocks}
use Rattle.passes.specs.Counted.{counts_to}
use Rattle.recording.specs.Judged.{judged_of}
use Rattle.promises.specs.Parts.{Stands, VoiceBlocksStand, NoSuchBlock, joined}
use Rattle.promises.specs.Parts.{FramesAreAll, FramesAreLong}
use Rattle.promises.specs.Parts.{FramesFit, RefusedHasNone, EmptyRefused, EndCounts, RepairsCounted}
use Rattle.promises.specs.Parts.{BreaksCounted}
use Rattle.blocks.specs.declared.Span.{Span}
use Rattle.blocks.specs.Walk.{Ending}
use Rattle.recording.specs.declared.Summary.{Summary}
use Rattle.blocks.proofs.Voices.{voice_sized, spans_more, voices_none, voices_more, spans_sound}
use Rattle.blocks.proofs.Voices.{payloads_refused, block_payload}
use Rattle.blocks.proofs.Frames.{frames_refused}
use Rattle.blocks.proofs.Passed.{length_cut, frames_in_none, frames_in_more, blocks_none, blocks_more, sound_whole}
use Rattle.blocks.proofs.Made.{payload_sized}
use Rattle.promises.proofs.Rule.{judged_refused, judged_sound}

-- ---- where the voice blocks stand

-- the part that the k-th of these payloads is, counted from a place on
abbrev span_for : ℕ → List (List ℕ) → ℕ → Span
span_for at ps k =
    record {
      from = at + length (voice_blocks (take k ps)) + 6;
      to = at + length (voice_blocks (take k ps)) + 6 + length (get_or ps k []);
    }

-- two parts are the same where both ends are
same_span : (a b c d : ℕ) → a ≡ c → b ≡ d → ◌≡◌ {A = Span} (record { from = a; to = b }) (record { from = c; to = d })
same_span a b c d p q i = record { from = p i; to = q i }

-- so the k-th place is
voices_stand : (s : List ℕ) (k at : ℕ) → k < length (voices_from s at)
    → get_or (spans_from s at) k nowhere ≡ span_for at (voices_from s at) k
voices_stand s zero at l = go (voice_size s at) refl (ℕ_discrete (voice_size s at) 0)
  where
    go : (size : ℕ) → size ≡ voice_size s at → Dec (size ≡ 0)
        → get_or (spans_from s at) 0 nowhere ≡ span_for at (voices_from s at) 0
    go size e (yes z) = absurd (let n = ap length (voices_none s at size e z) in omega (arith, n))
    go size e (no z) =
        let t = voice_sized s at size e z in
        let n : length (part s (at + 6) size) ≡ size
        = length-take-le size (drop (at + 6) s) (simp length-drop (omega (arith, t.fits))) in
        let b = blocks_none in
        ap (λ (x : List Span). get_or x 0 nowhere) (spans_more s at size e z)
        ∙ same_span (at + 6) (at + 6 + size) (at + length (voice_blocks []) + 6)
        (at + length (voice_blocks []) + 6 + length (part s (at + 6) size)) (omega (arith, b)) (omega (arith, b, n))
        ∙ ap (λ (x : List (List ℕ)). span_for at x 0) (sym (voices_more s at size e z))
voices_stand s (suc k) at l = go (voice_size s at) refl (ℕ_discrete (voice_size s at) 0)
    (λ next m. voices_stand s k next m)
  where
    go : (size : ℕ) → size ≡ voice_size s at → Dec (size ≡ 0)
        → ((next : ℕ) → k < length (voices_from s next)
        → get_or (spans_from s next) k nowhere ≡ span_for next (voices_from s next) k)
        → get_or (spans_from s at) (suc k) nowhere ≡ span_for at (voices_from s at) (suc k)
    go size e (yes z) further = absurd (let n = ap length (voices_none s at size e z) in omega (arith, n))
    go size e (no z) further =
        let t = voice_sized s at size e z in
        let n : length (part s (at + 6) size) ≡ size
        = length-take-le size (drop (at + 6) s) (simp length-drop (omega (arith, t.fits))) in
        let m = ap length (voices_more s at size e z) in
        let b = blocks_more (part s (at + 6) size) (take k (voices_from s (at + 6 + size))) in
        ap (λ (x : List Span). get_or x (suc k) nowhere) (spans_more s at size e z)
        ∙ further (at + 6 + size) (omega (arith, m))
        ∙ same_span (at + 6 + size + length (voice_blocks (take k (voices_from s (at + 6 + size)))) + 6)
        (at + 6 + size + length (voice_blocks (take k (voices_from s (at + 6 + size)))) + 6
        + length (get_or (voices_from s (at + 6 + size)) k []))
        (at + length (voice_blocks (part s (at + 6) size ∷ take k (voices_from s (at + 6 + size)))) + 6)
        (at + length (voice_blocks (part s (at + 6) size ∷ take k (voices_from s (at + 6 + size)))) + 6
        + length (get_or (voices_from s (at + 6 + size)) k [])) (omega (arith, b, n)) (omega (arith, b, n))
        ∙ ap (λ (x : List (List ℕ)). span_for at x (suc k)) (sym (voices_more s at size e z))

-- the blocks before the next one are those before this one, and this one; all of them are at least those
blocks_next : (ps : List (List ℕ)) (k : ℕ) → k < length ps
    → length (voice_blocks (take (suc k) ps)) ≡ length (voice_blocks (take k ps)) + 6 + length (get_or ps k [])
blocks_next [] k l = absurd (omega arith)
blocks_next (p ∷ ps) zero l = let a = blocks_more p [] in let b = blocks_none in omega (arith, a, b)
blocks_next (p ∷ ps) (suc k) l =
    let r = blocks_next ps k (omega arith) in
    let a = blocks_more p (take (suc k) ps) in
    let b = blocks_more p (take k ps) in
    omega (arith, r, a, b)

-- the first k blocks take no more bytes than all
blocks_most : (ps : List (List ℕ)) (k : ℕ) → length (voice_blocks (take k ps)) ≤ length (voice_blocks ps)
blocks_most ps zero = let a = blocks_none in omega (arith, a)
blocks_most [] (suc k) = omega arith
blocks_most (p ∷ ps) (suc k) =
    let r = blocks_most ps k in
    let a = blocks_more p (take k ps) in
    let b = blocks_more p ps in
    omega (arith, r, a, b)

-- in a sound recording
module _ (s : List ℕ) (e : (walked_of s).ending ≡ Ok tt) (k : ℕ) (l : k < length (payloads_of s)) where
  -- it is among those after the head
  in_voices : k < length (voices_from s (after_head 0))
  in_voices = subst (λ (x : List (List ℕ)). k < length x) (sound_whole s e).voices l

  -- the k-th place is after the head and the voice blocks before it
  stands_there : span_of s k ≡ span_for (after_head 0) (payloads_of s) k
  unfolding span_of
  stands_there =
      let o = sound_whole s e in
      ap (λ (x : List Span). get_or x k nowhere) (spans_sound s e)
      ∙ ap (λ (n : ℕ). get_or (spans_from s n) k nowhere) o.behind.voices
      ∙ voices_stand s k (after_head 0) in_voices
      ∙ ap (λ (x : List (List ℕ)). span_for (after_head 0) x k) (sym o.voices)

  -- the k-th payload is of whole frames
  sized_there : (0 < length (get_or (payloads_of s) k [])) × (length (get_or (payloads_of s) k []) % 18 ≡ 0)
  sized_there =
      subst (λ (x : List (List ℕ)). (0 < length (get_or x k [])) × (length (get_or x k []) % 18 ≡ 0))
      (sym (sound_whole s e).voices)
      (payload_sized s k (after_head 0) in_voices)

  -- so it stands there
  stands : Stands s k
  unfolding voice_block_of
  stands =
      let o = sound_whole s e in
      let n : length (voice_block_of s k) ≡ length (get_or (payloads_of s) k []) = ap length (block_payload s k) in
      let a = blocks_next (payloads_of s) k l in
      let m = blocks_most (payloads_of s) (suc k) in
      let f = ap (λ (r : Span). r.from) stands_there in
      let t = ap (λ (r : Span). r.to) stands_there in
      let d : (span_of s k).to - (span_of s k).from ≡ length (voice_block_of s k) = omega (arith, f, t, n) in
      record {
        from = f;
        to = omega (arith, t, n);
        holds = ap₂ (part s) f d;
        positive = omega (arith, n, sized_there.0);
        whole = ap (λ (x : ℕ). x % 18) n ∙ sized_there.1;
        apart = omega (arith, a, n);
        within = omega (arith, a, n, m, o.ended.last, o.behind.at);
      }

pub voice_blocks_stand : VoiceBlocksStand
voice_blocks_stand s k l = go (walked_of s).ending refl
  where
    go : (x : Ending) → (walked_of s).ending ≡ x → Stands s k
    go (Ok _) e = stands s e k l
    go (Err cause) e = absurd (let n = ap length (payloads_refused s cause e) in omega (arith, n))

pub no_such_block : NoSuchBlock
unfolding span_of voice_block_of payloads_of
no_such_block s k l =
    let n = length-map (spans_of s) (bytes_at s) in
    let e : get_or (spans_of s) k nowhere ≡ nowhere = get_or-eq_default (spans_of s) nowhere (omega (arith, n)) in
    (e, ap (bytes_at s) e)

-- ---- the frames are all the frames

-- a payload of whole frames and what follows it are cut one after the other
cut_append : (m n : ℕ) (p q : List ℕ) → length p ≡ 18 * m → cut (m + n) (p ++ q) ≡ cut m p ++ cut n q
unfolding cut
cut_append zero n [] q l = ap (λ (k : ℕ). cut k q) (zero-add n)
cut_append zero n (x ∷ p) q l = absurd (omega arith)
cut_append (suc m) n p q l =
    let h : 18 ≤ length p = omega arith in
    let d : length (drop 18 p) ≡ 18 * m = simp length-drop (omega arith) in
    ap (λ (k : ℕ). cut k (p ++ q)) (suc-add m n)
    ∙ ap₂ (λ (f r : List ℕ). f ∷ cut (m + n) r) (take-append-le 18 p q h) (drop-append-le 18 p q h)
    ∙ ap (λ (r : List (List ℕ)). take 18 p ∷ r) (cut_append m n (drop 18 p) q d)

-- so with all payloads put together
frames_joined : (ps : List (List ℕ)) → ((k : ℕ) → k < length ps → length (get_or ps k []) % 18 ≡ 0)
    → frames_in ps ≡ eighteens (joined ps)
unfolding frames_in joined cut
frames_joined [] w = refl
frames_joined (p ∷ ps) w =
    let z : length p % 18 ≡ 0 = w 0 (omega arith) in
    let n : length (p ++ joined ps) / 18 ≡ length p / 18 + length (joined ps) / 18 = simp length-append (omega arith)
    in
    ap (λ (r : List (List ℕ)). eighteens p ++ r) (frames_joined ps (λ k l. w (suc k) (omega arith)))
    ∙ sym (cut_append (length p / 18) (length (joined ps) / 18) p (joined ps) (omega arith))
    ∙ ap (λ (k : ℕ). cut k (p ++ joined ps)) (sym n)

pub frames_are_all : FramesAreAll
unfolding frames_of
frames_are_all s =
    frames_joined (payloads_of s)
    (λ k l. ap (λ (x : List ℕ). length x % 18) (sym (block_payload s k)) ∙ (voice_blocks_stand s k l).whole)

-- each frame that is cut is eighteen bytes
cut_long : (n : ℕ) (p : List ℕ) (k : ℕ) → 18 * n ≤ length p → k < n → length (get_or (cut n p) k []) ≡ 18
unfolding cut
cut_long zero p k h l = absurd (omega arith)
cut_long (suc n) p zero h l = length-take-le 18 p (omega arith)
cut_long (suc n) p (suc k) h l = cut_long n (drop 18 p) k (simp length-drop (omega arith)) (omega arith)

pub frames_are_long : FramesAreLong
frames_are_long s k l =
    let e = frames_are_all s in
    let p : List ℕ = joined (payloads_of s) in
    let n = ap length e ∙ length_cut (length (joined (payloads_of s)) / 18) (joined (payloads_of s)) in
    ap (λ (x : List (List ℕ)). length (get_or x k [])) e
    ∙ cut_long (length (joined (payloads_of s)) / 18) (joined (payloads_of s)) k (omega arith) (omega (arith, n))

-- whole frames take no more bytes than their blocks
blocks_frames : (ps : List (List ℕ)) → 18 * length (frames_in ps) ≤ length (voice_blocks ps)
blocks_frames [] = let a = frames_in_none in omega (arith, a)
blocks_frames (p ∷ ps) =
    let r = blocks_frames ps in
    let a = frames_in_more p ps in
    let b = blocks_more p ps in
    omega (arith, r, a, b)

pub frames_fit : FramesFit
unfolding frames_of
frames_fit s = go (walked_of s).ending refl
  where
    go : (x : Ending) → (walked_of s).ending ≡ x → 18 * length (frames_in (payloads_of s)) ≤ length s
    go (Ok _) e =
        let o = sound_whole s e in
        let a = blocks_frames (payloads_of s) in
        omega (arith, a, o.ended.last, o.behind.at)
    go (Err cause) e =
        let b = ap (λ (x : List (List ℕ)). length (frames_in x)) (payloads_refused s cause e) ∙ frames_in_none in
        omega (arith, b)

-- ---- what a sound recording tells

pub end_counts : EndCounts
unfolding frames_of
end_counts s x e =
    let j = judged_sound s x e in
    ap (λ (y : Summary). y.frames) j.1 ∙ (sound_whole s j.0).behind.frames

pub repairs_counted : RepairsCounted
unfolding counts_to
repairs_counted s x e = ap (λ (y : Summary). y.counts.repaired) (judged_sound s x e).1

pub breaks_counted : BreaksCounted
unfolding counts_to
breaks_counted s x e = ap (λ (y : Summary). y.counts.breaks) (judged_sound s x e).1

-- ---- a refused recording

pub refused_has_none : RefusedHasNone
refused_has_none s c e =
    let w = judged_refused s c e in
    (λ k. no_such_block s k (let n = ap length (payloads_refused s c w) in omega (arith, n)), frames_refused s c w)

pub empty_refused : EmptyRefused
unfolding judged_of walked_of walk_from turns step_of block_at
empty_refused = refl

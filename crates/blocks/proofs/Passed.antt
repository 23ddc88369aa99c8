-- What a walk has passed: the head, and the voice blocks after it up to where it stands.
-- Assumes nothing.
use mathlib.Core.Path.{◌≡◌, ◌∙◌, sym, refl, ap, subst}
use mathlib.Core.Bool.{true, false}
use mathlib.Core.List.{List, [], ◌∷◌, ◌++◌, append_assoc, append-nil}
use Prim.Native.Nat.{ℕ, zero, suc, ◌+◌, ◌/◌}
use native.Mathlib.Omega.{arith}
use lib.ListN.{length, drop, length-append, length-drop}
use lib.Seq.{length-take-le}
use Rattle.std.specs.Prelude.{Ok}
use Rattle.std.specs.declared.ops.ControlFlow.TheVariants.{Continue, Break}
use Rattle.blocks.specs.Blocks.{block_at, part}
use Rattle.blocks.specs.Walk.{after_head, past_head_of, past_voice_of, step_of, at_start, walked_of}
use Rattle.blocks.specs.Frames.{voices_from, payloads_of, cut, eighteens, frames_in}
use Rattle.blocks.specs.Made.{block, voice_blocks}
use Rattle.blocks.specs.declared.Block.TheVariants.{Head, Voice}
use Rattle.blocks.specs.declared.Walk.{Walk}
use Rattle.blocks.proofs.Blocks.{voice_held}
use Rattle.blocks.proofs.Voices.{voice_itself, end_no_voice, voices_none, voices_more, payloads_sound}
use Rattle.blocks.proofs.Walks.{step_on, Ended, step_sound, walked_keeps, walked_stops, sound_short}

-- a payload is cut into as many frames as were asked for
pub length_cut : (n : ℕ) (p : List ℕ) → length (cut n p) ≡ n
unfolding cut
length_cut zero p = refl
length_cut (suc n) p = ap suc (length_cut n (drop 18 p))

-- how many frames: none of no payload, of each payload its eighteenth part
pub frames_in_none : length (frames_in []) ≡ 0
unfolding frames_in
frames_in_none = refl

-- one payload more in front
pub frames_in_more : (p : List ℕ) (ps : List (List ℕ))
    → length (frames_in (p ∷ ps)) ≡ length p / 18 + length (frames_in ps)
unfolding frames_in
frames_in_more p ps =
    length-append (eighteens p) (frames_in ps) ∙ ap (λ (n : ℕ). n + length (frames_in ps))
    (length_cut (length p / 18) p)

-- and one more behind
pub frames_in_last : (ps : List (List ℕ)) (p : List ℕ)
    → length (frames_in (ps ++ (p ∷ []))) ≡ length (frames_in ps) + length p / 18
frames_in_last [] p = let a = frames_in_more p [] in let b = frames_in_none in omega (arith, a, b)
frames_in_last (q ∷ ps) p =
    let r = frames_in_last ps p in
    let a = frames_in_more q (ps ++ (p ∷ [])) in
    let b = frames_in_more q ps in
    omega (arith, r, a, b)

-- how many bytes their blocks take: six for each header, and the payload
pub blocks_none : length (voice_blocks []) ≡ 0
unfolding voice_blocks
blocks_none = refl

-- one more in front
pub blocks_more : (p : List ℕ) (ps : List (List ℕ)) → length (voice_blocks (p ∷ ps))
    ≡ 6 + length p + length (voice_blocks ps)
unfolding voice_blocks
blocks_more p ps = let n = length-append (block 2 p) (voice_blocks ps) in omega (arith, n)

-- and one more behind
blocks_last : (ps : List (List ℕ)) (p : List ℕ) → length (voice_blocks (ps ++ (p ∷ [])))
    ≡ length (voice_blocks ps) + 6 + length p
blocks_last [] p = let a = blocks_more p [] in let b = blocks_none in omega (arith, a, b)
blocks_last (q ∷ ps) p =
    let r = blocks_last ps p in
    let a = blocks_more q (ps ++ (p ∷ [])) in
    let b = blocks_more q ps in
    omega (arith, r, a, b)

-- past the head: it is the first block, the voice blocks begin behind it, and of theirs these payloads are passed
pub record Behind (s : List ℕ) (w : Walk) (ps : List (List ℕ)) : Type 0 where
  pub headed : w.headed ≡ true
  pub head : block_at s 0 ≡ Ok (Head w.heading)
  pub voices : w.voices ≡ after_head 0
  pub passed : voices_from s (after_head 0) ≡ ps ++ voices_from s w.at
  pub at : w.at ≡ after_head 0 + length (voice_blocks ps)
  pub frames : w.frames ≡ length (frames_in ps)

-- a walk is before the first block, or past the head
pub data Way (s : List ℕ) : Walk → Type 0 where
  before_head : Way s at_start
  behind_head : (w : Walk) (ps : List (List ℕ)) → Behind s w ps → Way s w

-- it stays so at each step
way_on : (s : List ℕ) (w next : Walk) → Way s w → step_of s w ≡ Continue next → Way s next
way_on s _ next before_head o =
    step_on s at_start next (Way s)
    (λ h e t.
    behind_head (past_head_of at_start h) []
    (record {
      headed = refl;
      head = e;
      voices = refl;
      passed = refl;
      at = let z = blocks_none in omega (arith, z);
      frames = sym frames_in_none;
    }))
    (λ size e t. absurd (let z : ◌≡◌ {A = ℕ} 0 1 = cc in omega arith)) o
way_on s w next (behind_head _ ps b) o =
    step_on s w next (Way s)
    (λ h e t. absurd (let u : true ≡ false = sym b.headed ∙ t in let z : ◌≡◌ {A = ℕ} 0 1 = cc in omega arith))
    (λ size e t. behind_head (past_voice_of w size) (ps ++ (part s (w.at + 6) size ∷ [])) (further size e)) o
  where
    further : (size : ℕ) → block_at s w.at ≡ Ok (Voice size)
        → Behind s (past_voice_of w size) (ps ++ (part s (w.at + 6) size ∷ []))
    further size e =
        let v = voice_held s w.at size e in
        let k : length (part s (w.at + 6) size) ≡ size
        = length-take-le size (drop (w.at + 6) s) (simp length-drop (omega (arith, v.0.fits))) in
        let m = voices_more s w.at size (voice_itself s w.at size e) (λ z. omega (arith, v.1)) in
        let a = blocks_last ps (part s (w.at + 6) size) in
        let f = frames_in_last ps (part s (w.at + 6) size) in
        let j : length (part s (w.at + 6) size) / 18 ≡ size / 18 = ap (λ (x : ℕ). x / 18) k in
        record {
          headed = b.headed;
          head = b.head;
          voices = b.voices;
          passed =
              b.passed ∙ ap (λ (x : List (List ℕ)). ps ++ x) m
              ∙ sym (append_assoc ps (part s (w.at + 6) size ∷ []) (voices_from s (w.at + 6 + size)));
          at = omega (arith, b.at, a, k);
          frames = omega (arith, b.frames, f, j);
        }

-- so it is of the walk that is answered, sound or refused
pub way : (s : List ℕ) → Way s (walked_of s).walk
way s = walked_keeps s (Way s) (way_on s) before_head

-- a sound walk stands at the end block, past the head and all voice blocks
pub record Whole (s : List ℕ) : Type 0 where
  pub behind : Behind s (walked_of s).walk (payloads_of s)
  pub ended : Ended s (walked_of s).walk
  pub voices : payloads_of s ≡ voices_from s (after_head 0)

-- so it is of every sound recording
pub sound_whole : (s : List ℕ) → (walked_of s).ending ≡ Ok tt → Whole s
sound_whole s e = go (walked_of s).walk refl (way s)
  where
    end : Ended s (walked_of s).walk
    end = step_sound s (walked_of s).walk (walked_stops s (sound_short s e) ∙ ap Break e)

    go : (w : Walk) → (walked_of s).walk ≡ w → Way s w → Whole s
    go w i before_head = absurd (let n = end.some in let z = ap (λ (x : Walk). x.frames) i in omega (arith, n, z))
    go w i (behind_head _ ps b) =
        let c : Behind s (walked_of s).walk ps = subst (λ (x : Walk). Behind s x ps) (sym i) b in
        let none =
        voices_none s (walked_of s).walk.at 0 (end_no_voice s (walked_of s).walk.at (walked_of s).walk.frames
        end.block) refl in
        let all : voices_from s (after_head 0) ≡ ps = c.passed ∙ ap (λ (x : List (List ℕ)). ps ++ x) none
        ∙ append-nil ps in
        let paid : payloads_of s ≡ voices_from s (after_head 0) = payloads_sound s e ∙ ap (voices_from s) c.voices in
        record {
          behind = subst (Behind s (walked_of s).walk) (sym (paid ∙ all)) c;
          ended = end;
          voices = paid;
        }

-- What is kept of a recording that has a head: where its blocks end, how many frames they have.
-- Assumes nothing.
use mathlib.Core.Path.{◌≡◌, ◌∙◌, sym, refl, ap, subst}
use mathlib.Core.Bool.{true, not}
use mathlib.Core.List.{List, [], ◌∷◌, ◌++◌, append_assoc, append-nil}
use Prim.Native.Nat.{ℕ, zero, suc, ◌+◌, ◌-◌, ◌*◌, ◌/◌, ◌≤◌}
use native.Mathlib.Omega.{arith}
use borrow.Author.Tests.{leb-true}
use lib.Dec.{eqb, leb, ltb}
use lib.ListN.{length, drop, length-append, length-drop}
use lib.Seq.{take-take, length-take-le}
use Rattle.std.specs.Prelude.{Result, Ok, Err}
use Rattle.std.specs.declared.ops.ControlFlow.TheVariants.{Continue, Break}
use Rattle.laws.proofs.Chosen.{chosen}
use Rattle.blocks.specs.Blocks.{size_at, kind_at, right_size, block_at, part}
use Rattle.blocks.specs.Walk.{longest, after_head, past_voice_of, met, step_of, walked_of}
use Rattle.blocks.specs.Frames.{voice_size, voices_from, eighteens, frames_in}
use Rattle.blocks.specs.Made.{block, voice_blocks}
use Rattle.blocks.specs.declared.Block.{Block}
use Rattle.blocks.specs.declared.Block.TheVariants.{Head, Voice, End}
use Rattle.blocks.specs.declared.Cause.{Cause}
use Rattle.blocks.specs.declared.Cause.TheVariants.{TooLong, HeaderCut, PastEnd, WrongSize, UnknownKind}
use Rattle.blocks.specs.declared.Cause.TheVariants.{OutOfTurn, EndMissing, WrongCount, Extra}
use Rattle.blocks.specs.Walk.{Ending}
use Rattle.blocks.specs.Walk.{Moved}
use Rattle.blocks.specs.declared.Walk.{Walk}
use Rattle.blocks.proofs.Made.{payload_sized}
use Rattle.blocks.proofs.Passed.{frames_in_none, frames_in_more, blocks_none, blocks_more, Behind, Way, before_head}
use Rattle.blocks.proofs.Passed.{behind_head, way}
use Rattle.blocks.proofs.Voices.{head_no_voice, end_no_voice, broken_no_voice, voices_none}
use Rattle.blocks.proofs.Walks.{voice_passed, step_met, step_further, walked_keeps, walked_stops}
use Rattle.kept.specs.Keeping.{frames_left, left_at, frames_at, kept_of, first_frames}
use Rattle.kept.specs.Steps.{reach_of}
use Rattle.kept.proofs.First.{Sized, none, more, sized_all, sized_join, first_none}

-- ---- payloads one after the other

-- the blocks of payloads and of others behind them
pub blocks_join : (ps qs : List (List ℕ)) → voice_blocks (ps ++ qs) ≡ voice_blocks ps ++ voice_blocks qs
unfolding voice_blocks
blocks_join [] qs = refl
blocks_join (p ∷ ps) qs =
    ap (λ (x : List ℕ). block 2 p ++ x) (blocks_join ps qs)
    ∙ sym (append_assoc (block 2 p) (voice_blocks ps) (voice_blocks qs))

-- and their frames
pub frames_join : (ps qs : List (List ℕ)) → frames_in (ps ++ qs) ≡ frames_in ps ++ frames_in qs
unfolding frames_in
frames_join [] qs = refl
frames_join (p ∷ ps) qs =
    ap (λ (x : List (List ℕ)). eighteens p ++ x) (frames_join ps qs)
    ∙ sym (append_assoc (eighteens p) (frames_in ps) (frames_in qs))

-- ---- the frames after a header

module _ (s : List ℕ) (at : ℕ) where
  -- so many bytes, where there are so many
  part_long : (n : ℕ) → at + 6 + 18 * n ≤ length s → length (part s (at + 6) (18 * n)) ≡ 18 * n
  part_long n l = length-take-le (18 * n) (drop (at + 6) s) (simp length-drop (omega arith))

  -- one payload of whole frames, or none
  pub at_sized : (n : ℕ) → reach_of at n ≤ length s → Sized (frames_at s at n)
  at_sized zero l = none
  at_sized (suc n) l =
      let k = part_long (suc n) l in more (part s (at + 6) (18 * suc n)) [] (omega (arith, k)) (omega (arith, k)) none

  -- it ends there
  pub at_long : (n : ℕ) → reach_of at n ≤ length s → at + length (voice_blocks (frames_at s at n)) ≡ reach_of at n
  at_long zero l = omega (arith, blocks_none)
  at_long (suc n) l = omega (arith, part_long (suc n) l, blocks_more (part s (at + 6) (18 * suc n)) [], blocks_none)

  -- and has so many frames
  pub at_count : (n : ℕ) → reach_of at n ≤ length s → length (frames_in (frames_at s at n)) ≡ n
  at_count zero l = frames_in_none
  at_count (suc n) l =
      let k = part_long (suc n) l in omega (arith, k, frames_in_more (part s (at + 6) (18 * suc n)) [], frames_in_none)

  -- its first frames are fewer of them
  pub at_first : (n k : ℕ) → k ≤ n → first_frames (frames_at s at n) k ≡ frames_at s at k
  unfolding first_frames
  at_first n zero l = first_none (frames_at s at n)
  at_first zero (suc k) l = absurd (omega arith)
  at_first (suc n) (suc k) l =
      ap (λ (x : List ℕ). x ∷ []) (take-take (18 * suc k) (18 * suc n) (drop (at + 6) s) (omega arith))

-- ---- the block at which a walk ends

-- behind the head that is no voice block
stop_no_voice : (s : List ℕ) (w : Walk) (e : Ending) → w.headed ≡ true → step_of s w ≡ Break e → 0 ≡ voice_size s w.at
stop_no_voice s w e t o = go (block_at s w.at) refl
  where
    go : (b : Result Block Cause) → block_at s w.at ≡ b → 0 ≡ voice_size s w.at
    go (Ok (Head h)) i = head_no_voice s w.at h i
    go (Ok (Voice size)) i =
        let m : Continue (past_voice_of w size) ≡ Break e = voice_passed w size t ∙ step_met s w (Ok (Voice size)) i ∙ o in
        absurd (let z : ◌≡◌ {A = ℕ} 0 1 = cc in omega arith)
    go (Ok (End n)) i = end_no_voice s w.at n i
    go (Err cause) i = broken_no_voice s w.at cause i

-- of a refusal for running past the end: the block that is told is the one at the place, and its header is whole
abbrev Past : List ℕ → ℕ → Cause → Type 0
Past s at TooLong = Unit
Past s at (HeaderCut p) = Unit
Past s at (PastEnd p) = (p ≡ at) × (at + 6 ≤ length s)
Past s at (WrongSize p size) = Unit
Past s at (UnknownKind p) = Unit
Past s at (OutOfTurn p) = Unit
Past s at (EndMissing p) = Unit
Past s at (WrongCount p) = Unit
Past s at (Extra p) = Unit

-- so of what stands at a place
abbrev PastBlock : List ℕ → ℕ → Result Block Cause → Type 0
PastBlock s at (Ok (Head heading)) = Unit
PastBlock s at (Ok (Voice size)) = Unit
PastBlock s at (Ok (End told)) = Unit
PastBlock s at (Err cause) = Past s at cause

block_past : (s : List ℕ) (at : ℕ) → PastBlock s at (block_at s at)
unfolding block_at
block_past s at =
    chosen (PastBlock s at) (ltb at (length s)) (λ a.
    chosen (PastBlock s at) (leb (at + 6) (length s)) (λ b.
    chosen (PastBlock s at) (leb (at + 6 + size_at s at) (length s)) (λ c.
    chosen (PastBlock s at) (right_size (kind_at s at) (size_at s at)) (λ r.
    chosen (PastBlock s at) (eqb (kind_at s at) 1) (λ k. tt) (λ k.
    chosen (PastBlock s at) (eqb (kind_at s at) 2) (λ j. tt) (λ j.
    chosen (PastBlock s at) (eqb (kind_at s at) 3) (λ i. tt) (λ i. tt))))
    (λ r. tt)) (λ c. (refl, leb-true (at + 6) (length s) b))) (λ b. tt)) (λ a. tt)

-- and of how a step ends
abbrev PastMoved : List ℕ → ℕ → Moved → Type 0
PastMoved s at (Continue next) = Unit
PastMoved s at (Break (Ok _)) = Unit
PastMoved s at (Break (Err cause)) = Past s at cause

step_past : (s : List ℕ) (w : Walk) → PastMoved s w.at (step_of s w)
unfolding step_of
step_past s w = go (block_at s w.at) (block_past s w.at)
  where
    go : (b : Result Block Cause) → PastBlock s w.at b → PastMoved s w.at (met s w b)
    go (Ok (Head h)) p = chosen (PastMoved s w.at) (not w.headed) (λ t. tt) (λ t. tt)
    go (Ok (Voice size)) p = chosen (PastMoved s w.at) w.headed (λ t. tt) (λ t. tt)
    go (Ok (End told)) p =
        chosen (λ (x : Ending). PastMoved s w.at (Break x)) (ltb 0 w.frames) (λ a.
        chosen (λ (x : Ending). PastMoved s w.at (Break x)) (eqb told w.frames) (λ b.
        chosen (λ (x : Ending). PastMoved s w.at (Break x)) (eqb (length s) (w.at + 6 + 4)) (λ c. tt) (λ c. tt))
        (λ b. tt)) (λ a. tt)
    go (Err cause) p = p

-- a recording refused for running past the end is so at the block at which its walk stands
pub past_end_at : (s : List ℕ) (p : ℕ) → length s ≤ longest → (walked_of s).ending ≡ Err (PastEnd p)
    → (p ≡ (walked_of s).walk.at) × ((walked_of s).walk.at + 6 ≤ length s)
past_end_at s p l e =
    subst (PastMoved s (walked_of s).walk.at) (walked_stops s l ∙ ap Break e) (step_past s (walked_of s).walk)

-- the walk stands within the bytes
walk_within : (s : List ℕ) → (walked_of s).walk.at ≤ length s
walk_within s =
    walked_keeps s (λ w. w.at ≤ length s) (λ w next q o. (step_further s w next o).within) (omega arith)

-- a block has no more frames left than stand after its header
few_left : (s : List ℕ) (p : ℕ) → frames_left s p ≤ (length s - (p + 6)) / 18
unfolding frames_left
few_left s p =
    chosen (λ (n : ℕ). n ≤ (length s - (p + 6)) / 18) (eqb (kind_at s p) 2) (λ t. omega arith) (λ t. omega arith)

-- what is left of the block at which it stands is within them too
pub left_within : (s : List ℕ) → length s ≤ longest
    → reach_of (walked_of s).walk.at (left_at s (walked_of s).ending) ≤ length s
left_within s l = go (walked_of s).ending refl
  where
    none_left : reach_of (walked_of s).walk.at 0 ≤ length s
    none_left = walk_within s

    some_left : (at n : ℕ) → at + 6 ≤ length s → n ≤ (length s - (at + 6)) / 18 → reach_of at n ≤ length s
    some_left at zero h m = omega arith
    some_left at (suc n) h m = omega arith

    go : (e : Ending) → (walked_of s).ending ≡ e → reach_of (walked_of s).walk.at (left_at s e) ≤ length s
    go (Ok _) e = none_left
    go (Err TooLong) e = none_left
    go (Err (HeaderCut p)) e = none_left
    go (Err (PastEnd p)) e =
        let h = past_end_at s p l e in
        some_left (walked_of s).walk.at (frames_left s p) h.1
        (subst (λ (q : ℕ). frames_left s p ≤ (length s - (q + 6)) / 18) h.0 (few_left s p))
    go (Err (WrongSize p size)) e = none_left
    go (Err (UnknownKind p)) e = none_left
    go (Err (OutOfTurn p)) e = none_left
    go (Err (EndMissing p)) e = none_left
    go (Err (WrongCount p)) e = none_left
    go (Err (Extra p)) e = none_left

-- ---- all that is kept

-- behind the head: the payloads, their count, and where their blocks end
pub record Kept (s : List ℕ) (w : Walk) (left : ℕ) : Type 0 where
  pub head : block_at s 0 ≡ Ok (Head w.heading)
  pub voices : Sized (voices_from s (after_head 0))
  pub sized : Sized (kept_of s)
  pub whole : length (frames_in (voices_from s (after_head 0))) ≡ w.frames
  pub stands : w.at ≡ after_head 0 + length (voice_blocks (voices_from s (after_head 0)))
  pub count : length (frames_in (kept_of s)) ≡ w.frames + left
  pub ends : after_head 0 + length (voice_blocks (kept_of s)) ≡ reach_of w.at left
  pub within : reach_of w.at left ≤ length s

pub kept_is : (s : List ℕ) → length s ≤ longest → (walked_of s).walk.headed ≡ true
    → Kept s (walked_of s).walk (left_at s (walked_of s).ending)
unfolding kept_of
kept_is s l t = go (walked_of s).walk refl (way s)
  where
    at : ℕ
    at = (walked_of s).walk.at

    left : ℕ
    left = left_at s (walked_of s).ending

    there : reach_of (walked_of s).walk.at (left_at s (walked_of s).ending) ≤ length s
    there = left_within s l

    rest : List (List ℕ)
    rest = frames_at s (walked_of s).walk.at (left_at s (walked_of s).ending)

    all_sized : Sized (voices_from s (after_head 0))
    all_sized = sized_all (voices_from s (after_head 0)) (λ k m. payload_sized s k (after_head 0) m)

    past : voices_from s (walked_of s).walk.at ≡ []
    past =
        voices_none s (walked_of s).walk.at 0
        (stop_no_voice s (walked_of s).walk (walked_of s).ending t (walked_stops s l)) refl

    joined : (ps : List (List ℕ)) → Behind s (walked_of s).walk ps
        → Kept s (walked_of s).walk (left_at s (walked_of s).ending)
    joined ps b =
        let v : voices_from s (after_head 0) ≡ ps
        = b.passed ∙ ap (λ (x : List (List ℕ)). ps ++ x) past ∙ append-nil ps in
        let f : length (frames_in (voices_from s (after_head 0))) ≡ (walked_of s).walk.frames
        = ap (λ (x : List (List ℕ)). length (frames_in x)) v ∙ sym b.frames in
        let n = ap length (frames_join (voices_from s (after_head 0)) rest) in
        let o = length-append (frames_in (voices_from s (after_head 0))) (frames_in rest) in
        let i = ap length (blocks_join (voices_from s (after_head 0)) rest) in
        let j = length-append (voice_blocks (voices_from s (after_head 0))) (voice_blocks rest) in
        let k = ap (λ (x : List (List ℕ)). length (voice_blocks x)) v in
        record {
          head = b.head;
          voices = all_sized;
          sized = sized_join (voices_from s (after_head 0)) rest all_sized (at_sized s at left there);
          whole = f;
          stands = b.at ∙ ap (λ (x : List (List ℕ)). after_head 0 + length (voice_blocks x)) (sym v);
          count = omega (arith, n, o, f, at_count s at left there);
          ends = omega (arith, i, j, k, b.at, at_long s at left there);
          within = there;
        }

    go : (w : Walk) → (walked_of s).walk ≡ w → Way s w → Kept s (walked_of s).walk (left_at s (walked_of s).ending)
    go w i before_head = absurd (let z : ◌≡◌ {A = ℕ} 0 1 = cc in omega arith)
    go w i (behind_head _ ps b) = joined ps (subst (λ (x : Walk). Behind s x ps) (sym i) b)

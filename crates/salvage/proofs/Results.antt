-- What is laid is the result, and what is answered is what was planned.
-- Assumes nothing.
use mathlib.Core.Path.{◌≡◌, ◌∙◌, sym, refl, ap, ap₂, subst}
use mathlib.Core.Bool.{Bool, true, false, cond}
use mathlib.Core.List.{List, ◌++◌, append_assoc}
use Prim.Native.Nat.{ℕ, zero, suc, ◌+◌, ◌-◌, ◌<◌, ◌≤◌}
use native.Mathlib.Omega.{arith}
use native.Mathlib.Decide.{dec_lt}
use lib.ListN.{length, take, drop, length-append, length-drop}
use lib.Seq.{take_all}
use Rattle.std.specs.Prelude.{Result, Ok, Err}
use Rattle.laws.proofs.Chosen.{chosen}
use Rattle.text.specs.Laid.{laid, after}
use Rattle.blocks.specs.Walk.{longest, after_head, walked_of}
use Rattle.blocks.specs.Frames.{voices_from, frames_in}
use Rattle.blocks.specs.Made.{head_block, voice_blocks, end_block, made}
use Rattle.kept.specs.Keeping.{left_at, frames_at, kept_of, first_frames, frames_kept, voices_kept}
use Rattle.kept.specs.Planning.{keep_of, plan_of}
use Rattle.kept.specs.Steps.{reach_of}
use Rattle.kept.specs.declared.Keep.{Keep}
use Rattle.kept.specs.declared.Unsalvaged.{Unsalvaged}
use Rattle.kept.proofs.First.{Sized, first_all, first_less}
use Rattle.kept.proofs.Keeps.{blocks_join, Kept}
use Rattle.kept.proofs.Most.{made_long, blocks_least, most_fits}
use Rattle.kept.proofs.Plans.{kept_count, kept_upto, kept_rest, kept_voices, Planned, plan_written}
use Rattle.salvage.specs.Salvaging.{result_of, end_of, changes_of, answer_of, salvage_of, buffer_by, buffer_of, long_of}
use Rattle.salvage.specs.Steps.{bytes_before, changes_by, answer_by}
use Rattle.salvage.specs.declared.Changes.{Changes}
use Rattle.salvage.specs.declared.Salvaged.{Salvaged}
use Rattle.salvage.specs.declared.Salvaged.TheVariants.{Sound, Mended}

-- fewer frames reach less far
reach_less : (at m n : ℕ) → m ≤ n → reach_of at m ≤ reach_of at n
reach_less at zero zero l = omega arith
reach_less at zero (suc n) l = omega arith
reach_less at (suc m) zero l = absurd (omega arith)
reach_less at (suc m) (suc n) l = omega arith

-- blocks of fewer frames are no longer
first_upto : (ps : List (List ℕ)) (n : ℕ) → Sized ps
    → length (voice_blocks (first_frames ps n)) ≤ length (voice_blocks ps)
first_upto ps n z = go (dec_lt n (length (frames_in ps)))
  where
    go : Dec (n < length (frames_in ps)) → length (voice_blocks (first_frames ps n)) ≤ length (voice_blocks ps)
    go (yes l) = let a = first_less ps n z l in omega (arith, a)
    go (no l) =
        let a = ap (λ (x : List (List ℕ)). length (voice_blocks x)) (first_all ps n z (omega arith)) in omega (arith, a)

module _ (s : List ℕ) (short : length s ≤ longest) (t : Kept s (walked_of s).walk (left_at s (walked_of s).ending)) where
  -- what is kept of the block at which the walk ends is within the bytes
  pub rest_reach : reach_of (walked_of s).walk.at (frames_kept s - (walked_of s).walk.frames) ≤ length s
  rest_reach =
      let a = reach_less (walked_of s).walk.at _ _ (kept_rest s short t) in
      let b = t.within in
      omega (arith, a, b)

  -- the end block stands within the bytes
  pub end_within : end_of s ≤ length s
  unfolding voices_kept
  end_within =
      let a = first_upto (kept_of s) (frames_kept s) t.sized in
      let e = t.ends in
      let w = t.within in
      omega (arith, a, e, w)

-- the result is no longer than a recording may be
pub result_short : (s : List ℕ) → length (result_of s) ≤ longest
unfolding result_of voices_kept frames_kept
result_short s = most_fits (walked_of s).walk.heading (kept_of s) (length (frames_in (kept_of s)))

-- and ends with its end block
pub result_long : (s : List ℕ) → length (result_of s) ≡ end_of s + 10
unfolding result_of
result_long s = made_long (walked_of s).walk.heading (voices_kept s)

-- where something is planned, the result is left in the buffer
pub left_kept : (s o : List ℕ) (k : Keep)
    → buffer_by (answer_of s (Ok k)) (result_of s) o ≡ result_of s ++ drop (length (result_of s)) o
left_kept s o k =
    chosen (λ (x : Salvaged). buffer_by (Ok x) (result_of s) o ≡ result_of s ++ drop (length (result_of s)) o) k.sound
    (λ t. refl) (λ t. refl)

module _ (s : List ℕ) (room : ℕ) (k : Keep) (e : plan_of s room ≡ Ok k) where
  -- what is planned says so
  pub planned : Planned s room k
  planned = plan_written s room k e

  -- what stands before the end block
  before_is : bytes_before s k ≡ head_block (walked_of s).walk.heading ++ voice_blocks (voices_kept s)
  unfolding bytes_before keep_of
  before_is =
      ap (λ (x : Keep).
      head_block x.heading
      ++ (voice_blocks (first_frames (voices_from s (after_head 0)) x.frames)
      ++ voice_blocks (frames_at s x.at x.rest)))
      planned.is
      ∙ ap (λ (x : List ℕ). head_block (walked_of s).walk.heading ++ x)
      (sym (blocks_join _ _) ∙ ap voice_blocks (sym (kept_voices s planned.short planned.kept)))

  -- the frames in all
  frames_are : k.frames ≡ frames_kept s
  unfolding keep_of
  frames_are = ap (λ (x : Keep). x.frames) planned.is

  -- with the end block it is the result
  result_is : bytes_before s k ++ end_block k.frames ≡ result_of s
  unfolding result_of made
  result_is =
      ap₂ (λ (x : List ℕ) (n : ℕ). x ++ end_block n) before_is
      (frames_are ∙ sym (kept_count s planned.short planned.kept))
      ∙ append_assoc (head_block (walked_of s).walk.heading) (voice_blocks (voices_kept s))
      (end_block (length (frames_in (voices_kept s))))

  -- what `write` asks
  pub plan_reach : reach_of k.at k.rest ≤ length s
  unfolding keep_of
  plan_reach =
      subst (λ (x : Keep). reach_of x.at x.rest ≤ length s) (sym planned.is)
      (rest_reach s planned.short planned.kept)

  module _ (o : List ℕ) (long : length o ≡ room) where
    -- where the end block stands
    pub end_is : (end : ℕ) → end ≡ after o 0 (bytes_before s k) → end ≡ end_of s
    end_is end i =
        let a = ap length before_is in
        let b = length-append (head_block (walked_of s).walk.heading) (voice_blocks (voices_kept s)) in
        let c = end_within s planned.short planned.kept in
        omega (arith, i, a, b, c, planned.short, planned.buffer, long)

    -- the buffer then
    pub buffer_is : (o' : List ℕ) → o' ≡ laid o 0 (bytes_before s k ++ end_block k.frames) → o' ≡ buffer_of s o
    unfolding laid buffer_of salvage_of
    buffer_is o' i =
        let short = result_short s in
        let z : 0 + length (result_of s) ≡ length (result_of s) = omega arith in
        i ∙ ap (λ (x : List ℕ). take (length o - 0) x ++ drop (0 + length x) o) result_is
        ∙ ap₂ (λ (x : List ℕ) (n : ℕ). x ++ drop n o)
        (take_all (length o - 0) (result_of s) (omega (arith, short, planned.buffer, long))) z
        ∙ sym (left_kept s o k)
        ∙ ap (λ (x : Result Keep Unsalvaged). buffer_by (answer_of s x) (result_of s) o) (sym e ∙ ap (plan_of s) (sym long))

  -- the changes, where the end block stands there
  changes_are : (end : ℕ) → end ≡ end_of s → changes_by (length s) k.frames end ≡ changes_of s
  unfolding changes_of
  changes_are end i =
      let n : end + 10 ≡ length (result_of s) = ap (λ (x : ℕ). x + 10) i ∙ sym (result_long s) in
      λ j. record { dropped = length s - i j; from = i j; frames = frames_are j; end = i j; long = n j }

  -- the answer
  pub answer_is : (end : ℕ) → end ≡ end_of s → Ok (answer_by (length s) k.frames end k.sound) ≡ salvage_of s room
  unfolding salvage_of
  answer_is end i =
      ap (λ (c : Changes). Ok (cond k.sound Sound (Mended c))) (changes_are end i) ∙ ap (answer_of s) (sym e)

module _ (s : List ℕ) (room : ℕ) (why : Unsalvaged) (e : plan_of s room ≡ Err why) where
  -- where nothing is planned it is refused
  pub refused_is : Err why ≡ salvage_of s room
  unfolding salvage_of
  refused_is = ap (answer_of s) (sym e)

  -- and the buffer stays as it was
  pub buffer_stays : (o : List ℕ) → length o ≡ room → o ≡ buffer_of s o
  unfolding buffer_of
  buffer_stays o l =
      ap (λ (x : Result Salvaged Unsalvaged). buffer_by x (result_of s) o) (refused_is ∙ ap (salvage_of s) (sym l))

-- the buffer is no shorter than it was
buffer_long : (s o : List ℕ) → length o ≤ length (buffer_of s o)
unfolding buffer_of
buffer_long s o = go (salvage_of s (length o))
  where
    whole : length o ≤ length (result_of s ++ drop (length (result_of s)) o)
    whole = simp (length-append, length-drop) (omega arith)

    go : (x : Result Salvaged Unsalvaged) → length o ≤ length (buffer_by x (result_of s) o)
    go (Ok Sound) = whole
    go (Ok (Mended changes)) = whole
    go (Err why) = omega arith

-- the result stands within it
pub result_within : (s o o' : List ℕ) (x : Result Salvaged Unsalvaged) (long : ℕ) → x ≡ salvage_of s (length o) → o' ≡ buffer_of s o
    → long ≡ long_of (length s) x → long ≤ length o'
unfolding salvage_of changes_of
result_within s o o' x long e b l = go (plan_of s (length o)) refl
  where
    by : long ≡ long_of (length s) (answer_of s (plan_of s (length o)))
    by = l ∙ ap (long_of (length s)) e

    room : length o ≤ length o'
    room = subst (λ (y : List ℕ). length o ≤ length y) (sym b) (buffer_long s o)

    go : (y : Result Keep Unsalvaged) → plan_of s (length o) ≡ y → long ≤ length o'
    go (Err why) i =
        let z : long ≡ 0 = by ∙ ap (λ (y : Result Keep Unsalvaged). long_of (length s) (answer_of s y)) i in omega (arith, z)
    go (Ok k) i =
        let p = plan_written s (length o) k i in
        let m : long_of (length s) (answer_of s (Ok k)) ≤ longest
        = chosen (λ (y : Salvaged). long_of (length s) (Ok y) ≤ longest) k.sound (λ t. p.short) (λ t. result_short s) in
        let n : long ≡ long_of (length s) (answer_of s (Ok k))
        = by ∙ ap (λ (y : Result Keep Unsalvaged). long_of (length s) (answer_of s y)) i in
        omega (arith, m, n, p.buffer, room)

-- the numbers of some changes are no larger than a recording is long
pub record Small (c : Changes) : Type 0 where
  pub dropped : c.dropped ≤ longest
  pub from : c.from ≤ longest
  pub frames : c.frames ≤ longest
  pub end : c.end ≤ longest

small : (s : List ℕ) → length s ≤ longest → Kept s (walked_of s).walk (left_at s (walked_of s).ending)
    → Small (changes_of s)
unfolding changes_of
small s l t =
    let w = end_within s l t in
    let u = kept_upto s l t in
    let b = blocks_least (kept_of s) t.sized in
    let e = t.ends in
    let i = t.within in
    record {
      dropped = omega (arith, l);
      from = omega (arith, l, w);
      frames = omega (arith, l, u, b, e, i);
      end = omega (arith, l, w);
    }

-- so they are of every recording that is mended
pub changes_small : (s : List ℕ) (room : ℕ) (c : Changes) → salvage_of s room ≡ Ok (Mended c) → Small c
unfolding salvage_of
changes_small s room c e = go (plan_of s room) refl e
  where
    mended : (b : Bool)
        → ◌≡◌ {A = Result Salvaged Unsalvaged} (Ok (cond b Sound (Mended (changes_of s)))) (Ok (Mended c))
        → Small (changes_of s) → Small c
    mended true a m = absurd (let z : ◌≡◌ {A = ℕ} 0 1 = cc in omega arith)
    mended false a m = let q : changes_of s ≡ c = cc in subst Small q m

    go : (x : Result Keep Unsalvaged) → plan_of s room ≡ x → answer_of s x ≡ Ok (Mended c) → Small c
    go (Err why) i a = absurd (let z : ◌≡◌ {A = ℕ} 0 1 = cc in omega arith)
    go (Ok k) i a =
        mended k.sound a (small s (plan_written s room k i).short (plan_written s room k i).kept)

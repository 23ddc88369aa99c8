-- The returns of the functions of a pass, and the law of a pass: after k steps from the start it stands before frame k
-- + 1, with the counts and the state of the k frames before it; and its step hears that frame. Assumes nothing.
use mathlib.Core.Path.{◌≡◌, ◌∙◌, sym, refl, ap, ap₂}
use mathlib.Core.Bool.{Bool, true, false, cond}
use mathlib.Core.List.{List, [], ◌∷◌}
use Prim.Native.Nat.{ℕ, zero, suc, ◌+◌, ◌-◌, ◌*◌, ◌<◌, ◌≤◌}
use native.Mathlib.Omega.{arith}
use native.Mathlib.Numerals.{add-one}
use native.Mathlib.Decide.{dec_lt}
use borrow.Author.Tests.{lt-leb, le-leb, leb-true}
use lib.Dec.{leb}
use lib.ListN.{length, get_or, take, drop, drop_of_length-le}
use lib.Seq.{drop-cons, take_all}
use Rattle.laws.specs.Table.{both}
use Rattle.std.specs.Prelude.{Option, Some, None, Ok, Err}
use Rattle.frame.specs.Answers.{reading_of}
use Rattle.frame.specs.declared.Correction.{Correction}
use Rattle.frame.specs.declared.Reading.{Reading}
use Rattle.values.specs.Values.{nothing_heard}
use Rattle.std.specs.Prelude.{Option}
use Rattle.values.specs.declared.State.{State}
use Rattle.values.specs.declared.Values.{Values}
use Rattle.blocks.specs.Blocks.{part}
use Rattle.blocks.specs.Walk.{longest, walked_of}
use Rattle.blocks.specs.Frames.{if_sound, frames_of, found_at, frames_from}
use Rattle.blocks.specs.declared.Cause.{Cause}
use Rattle.blocks.specs.declared.Cause.TheVariants.{EndMissing}
use Rattle.blocks.specs.Walk.{Ending}
use Rattle.blocks.specs.declared.Walk.{Walk}
use Rattle.blocks.specs.declared.Walked.{Walked}
use Rattle.blocks.specs.declared.Found.{Found}
use Rattle.blocks.proofs.Blocks.{nothing_left}
use Rattle.blocks.proofs.Voices.{broken_no_voice}
use Rattle.blocks.proofs.Walks.{sound_short}
use Rattle.blocks.proofs.Frames.{no_voice, found_within, frames_none, frames_more, frames_refused, frames_sound}
use Rattle.passes.specs.Counted.{breaks_at, counting_of, counting, frame_at, last_before, counts_to}
use Rattle.passes.specs.Pass.{hearing_of, no_hearing, state_through, begun_at, start_of}
use Rattle.passes.specs.Pass.{ahead_of, past_frame, step_by, next_of}
use Rattle.passes.specs.declared.Counts.{Counts}
use Rattle.passes.specs.declared.Hearing.{Hearing}
use Rattle.passes.specs.declared.Pass.{Pass}
use Rattle.passes.specs.declared.Step.{Step}
use Rattle.passes.proofs.Counting.{counts_none, counts_more, repaired_few, breaks_few}
use Rattle.passes.proofs.Hearings.{through_none, through_next, through_last}

-- ---- the returns

-- of `start`: before the first voice block of a sound recording, at the end of one that is refused
module _ (s : List ℕ) (before : State) {w : Walked} (is : w ≡ walked_of s) {p : Pass} where
  started : (e : Ending) → w.ending ≡ e → p ≡ begun_at (if_sound e w.walk.voices (length s)) before
      → p ≡ start_of before s
  unfolding start_of
  started e ends begun =
      begun ∙ ap (λ (x : Ending). begun_at (if_sound x w.walk.voices (length s)) before) (sym ends)
      ∙ ap (λ (x : Walked). begun_at (if_sound x.ending x.walk.voices (length s)) before) is

  -- the start of a sound recording is at its voice blocks
  pub start_sound : w.ending ≡ Ok tt → p ≡ begun_at w.walk.voices before → p ≡ start_of before s
  start_sound = started (Ok tt)

  -- that of a refused one is at its end
  pub start_refused : {cause : Cause} → w.ending ≡ Err cause → p ≡ begun_at (length s) before
      → p ≡ start_of before s
  start_refused {cause} = started (Err cause)

  -- and so after its own state
  pub start_own : w.ending ≡ Ok tt → p ≡ begun_at w.walk.voices before → p ≡ start_of p.state s
  start_own ends begun = start_sound ends begun ∙ ap (λ (x : State). start_of x s)
      (sym (ap (λ (x : Pass). x.state) begun))

-- a pass that begins from the walk of a sound recording
pub start_walk : (s : List ℕ) {walk : Walk} {before : State} {p : Pass} → walk ≡ (walked_of s).walk
    → (walked_of s).ending ≡ Ok tt
    → p ≡ begun_at walk.voices before → p ≡ start_of p.state s
start_walk s {walk} {before} e ends begun =
    start_own s before refl ends (begun ∙ ap (λ (x : Walk). begun_at x.voices before) e)

-- of `steps::ahead`: nothing for a pass that was not begun here
module _ (s : List ℕ) (p : Pass) where
  -- a pass through too many frames is at its end
  pub ahead_many : longest < p.frames → None ≡ ahead_of s p
  unfolding ahead_of
  ahead_many h = rw (lt-leb p.frames longest h)

  -- so is one that counted more repairs than frames
  pub ahead_repaired : p.frames ≤ longest → p.frames < p.counts.repaired → None ≡ ahead_of s p
  unfolding ahead_of
  ahead_repaired m h = rw (le-leb p.frames longest m, lt-leb p.counts.repaired p.frames h)

  -- and one that counted more breaks than frames
  pub ahead_broken : p.frames ≤ longest → p.counts.repaired ≤ p.frames → p.frames < p.counts.breaks
      → None ≡ ahead_of s p
  unfolding ahead_of
  ahead_broken m r h =
      rw (
        le-leb p.frames longest m,
        le-leb p.counts.repaired p.frames r,
        lt-leb p.counts.breaks p.frames h,
      )

  -- any other goes to the frame that is found
  pub ahead_found : p.frames ≤ longest → p.counts.repaired ≤ p.frames → p.counts.breaks ≤ p.frames
      → ahead_of s p ≡ found_at s p.at p.left
  unfolding ahead_of
  ahead_found m r b =
      rw (
        le-leb p.frames longest m,
        le-leb p.counts.repaired p.frames r,
        le-leb p.counts.breaks p.frames b,
      )

  -- where a frame is ahead, the pass has room for one more, and the frame stands within the bytes
  pub record Ahead (next : Found) : Type 0 where
    pub most : p.frames ≤ longest
    pub few : p.counts.repaired ≤ p.frames
    pub seldom : p.counts.breaks ≤ p.frames
    pub found : found_at s p.at p.left ≡ Some next

  -- what is known of a pass that has a frame ahead
  pub ahead_is : (next : Found) → ahead_of s p ≡ Some next → Ahead next
  unfolding ahead_of
  ahead_is next = go (leb p.frames longest) (leb p.counts.repaired p.frames)
      (leb p.counts.breaks p.frames) refl refl refl
    where
      never : None ≡ Some next → Ahead next
      never e = absurd (let z : ◌≡◌ {A = ℕ} 0 1 = cc in omega arith)

      go : (a b c : Bool) → leb p.frames longest ≡ a → leb p.counts.repaired p.frames ≡ b
          → leb p.counts.breaks p.frames ≡ c
          → cond (both a (both b c)) (found_at s p.at p.left) None ≡ Some next → Ahead next
      go false b c x y z e = never e
      go true false c x y z e = never e
      go true true false x y z e = never e
      go true true true x y z e =
          record {
            most = leb-true p.frames longest x;
            few = leb-true p.counts.repaired p.frames y;
            seldom = leb-true p.counts.breaks p.frames z;
            found = e;
          }

-- of `steps::past`
pub past_frame_lem : (p : Pass) (h : Hearing) (end left : ℕ) {x : Correction} {at : ℕ} {c : Counts}
    → x ≡ h.reading.correction → at ≡ breaks_at p.state.last
    → c ≡ counting_of p.counts x h.reading.indices.sy at
    → record { at = end; left = left; frames = p.frames + 1; counts = c; state = h.values.state }
    ≡ past_frame p h end left
past_frame_lem p h end left is then e =
    let f = ap₂ (λ (y : Correction) (at : ℕ). counting_of p.counts y h.reading.indices.sy at) is then in
    λ i. record { at = end; left = left; frames = p.frames + 1; counts = (e ∙ f) i; state = h.values.state }

-- of `steps::stay`
pub stayed : (p : Pass) {r : Reading} {v : Values} → r ≡ reading_of [] → v ≡ nothing_heard p.state
    → ◌≡◌ {A = Step} (record { hearing = record { reading = r; values = v }; pass = p })
    (record { hearing = no_hearing p.state; pass = p })
unfolding no_hearing
stayed p read valued = λ i. record { hearing = record { reading = read i; values = valued i }; pass = p }

-- of `steps::hear`
module _ (s : List ℕ) (p : Pass) where
  -- a step to a frame hears it and goes past it
  pub went_past : (found : Found) {h : Hearing} {q : Pass}
      → h ≡ hearing_of p.state (part s found.first (found.first + 18 - found.first))
      → q ≡ past_frame p h (found.first + 18) found.rest → record { hearing = h; pass = q } ≡ step_by s p (Some found)
  went_past found {h} {q} e is =
      let m : found.first + 18 - found.first ≡ 18 = omega arith in
      let l : h ≡ hearing_of p.state (part s found.first 18) = e ∙ ap (λ (k : ℕ). hearing_of p.state (part s found.first k)) m
      in
      (λ i. record { hearing = h; pass = is i })
      ∙ ap (λ (x : Hearing). record { hearing = x; pass = past_frame p x (found.first + 18) found.rest }) l

  -- of `next`
  pub next_by : {f g : Option Found} → f ≡ ahead_of s p → f ≡ g → step_by s p g ≡ next_of s p
  unfolding next_of
  next_by e is = ap (step_by s p) (sym is ∙ e)

-- ---- how many frames there are

-- each frame takes eighteen bytes
pub frames_few : (s : List ℕ) (n at left : ℕ) → length s - at < n → 18 * length (frames_from s at left) ≤ length s - at
frames_few s zero at left h = absurd (omega arith)
frames_few s (suc n) at left h = go (found_at s at left) refl (frames_few s n)
  where
    go : (f : Option Found) → found_at s at left ≡ f
        → ((at left : ℕ) → length s - at < n → 18 * length (frames_from s at left) ≤ length s - at)
        → 18 * length (frames_from s at left) ≤ length s - at
    go (Some found) e more =
        let w = found_within s at left found e in
        let l : length s - (found.first + 18) < n = omega (arith, w.on, w.fits) in
        let m = more (found.first + 18) found.rest l in
        rw (frames_more s at left found e) (omega (arith, w.on, w.fits))
    go None e more = rw (frames_none s at left e) (omega arith)

-- all frames are within the bytes
pub frames_fit : (s : List ℕ) → 18 * length (frames_of s) ≤ length s
frames_fit s = go (walked_of s).ending refl
  where
    go : (e : Ending) → (walked_of s).ending ≡ e → 18 * length (frames_of s) ≤ length s
    go (Ok _) e =
        let few = frames_few s (suc (length s)) (walked_of s).walk.voices 0 (omega arith) in
        rw (frames_sound s e) (omega arith)
    go (Err cause) e = rw (frames_refused s cause e) (omega arith)

-- so a recording has at most 3,640
pub frames_most : (s : List ℕ) → length (frames_of s) ≤ 3640
frames_most s = go (walked_of s).ending refl
  where
    go : (e : Ending) → (walked_of s).ending ≡ e → length (frames_of s) ≤ 3640
    go (Ok _) e = let short = sound_short s e in let fit = frames_fit s in omega arith
    go (Err cause) e = rw (frames_refused s cause e) (omega arith)

-- ---- the law

-- a list of which something is left after k, and one of which nothing is
left_some : {A : Type 0} (d : A) (xs : List A) (k : ℕ) (y : A) (ys : List A) → y ∷ ys ≡ drop k xs
    → (k < length xs) × (y ≡ get_or xs k d) × (ys ≡ drop (suc k) xs)
left_some d xs k y ys e = go (dec_lt k (length xs))
  where
    go : Dec (k < length xs) → (k < length xs) × (y ≡ get_or xs k d) × (ys ≡ drop (suc k) xs)
    go (yes h) =
        let q = e ∙ drop-cons xs k d h in
        let a : y ≡ get_or xs k d = cc in
        let b : ys ≡ drop (suc k) xs = cc in
        (h, a, b)
    go (no h) =
        let n : length xs ≤ k = omega arith in
        let q = e ∙ drop_of_length-le xs n in
        absurd (let z : ◌≡◌ {A = ℕ} 0 1 = cc in omega arith)

-- where nothing is left of a list, all of it was passed
left_none : {A : Type 0} (d : A) (xs : List A) (k : ℕ) → [] ≡ drop k xs → length xs ≤ k
left_none d xs k e = go (dec_lt k (length xs))
  where
    go : Dec (k < length xs) → length xs ≤ k
    go (yes h) =
        let q = e ∙ drop-cons xs k d h in
        absurd (let z : ◌≡◌ {A = ℕ} 0 1 = cc in omega arith)
    go (no h) = omega arith

-- a pass on its way from the start: what is left to it are the frames after those that it passed, whose counts and
-- state it has
pub record Passing (before : State) (s : List ℕ) (p : Pass) : Type 0 where
  pub rest : frames_from s p.at p.left ≡ drop p.frames (frames_of s)
  pub most : p.frames ≤ length (frames_of s)
  pub counts : p.counts ≡ counts_to before (frames_of s) p.frames
  pub state : p.state ≡ state_through before (take p.frames (frames_of s))

-- a pass that is just started
pub passing_start : (before : State) (s : List ℕ) → Passing before s (start_of before s)
unfolding start_of
passing_start before s = go (walked_of s).ending refl
  where
    begun : (at : ℕ) → frames_from s at 0 ≡ frames_of s → Passing before s (begun_at at before)
    begun at e =
        record {
          rest = e;
          most = omega arith;
          counts = counts_none before (frames_of s);
          state =
              through_none before (frames_of s);
        }

    go : (e : Ending) → (walked_of s).ending ≡ e
        → Passing before s (begun_at (if_sound e (walked_of s).walk.voices (length s)) before)
    go (Ok _) e = begun (walked_of s).walk.voices (sym (frames_sound s e))
    go (Err cause) e =
        let z = broken_no_voice s (length s) (EndMissing (length s)) (sym (nothing_left s (length s) (omega arith))) in
        begun (length s) (frames_none s (length s) 0 (sym (no_voice s (length s) 0 0 refl z refl))
        ∙ sym (frames_refused s cause e))

-- a step of a pass takes it past the next frame, which is heard, or it is at the end of the frames and stays
pub data Stepping (before : State) (s : List ℕ) (p : Pass) (t : Step) : Type 0 where
  past : p.frames < length (frames_of s)
      → t.hearing ≡ hearing_of (state_through before (take p.frames (frames_of s))) (get_or (frames_of s) p.frames [])
      → Passing before s t.pass → t.pass.frames ≡ suc p.frames → Stepping before s p t
  ended : p.frames ≡ length (frames_of s) → t.hearing ≡ no_hearing (state_through before (frames_of s)) → t.pass ≡ p
      → Stepping before s p t

module _ (before : State) (s : List ℕ) (p : Pass) (q : Passing before s p) where
  ours : ahead_of s p ≡ found_at s p.at p.left
  ours =
      let m = frames_most s in
      let n = q.most in
      let r : p.counts.repaired ≤ p.frames = rw q.counts (repaired_few before (frames_of s) p.frames) in
      let b : p.counts.breaks ≤ p.frames = rw q.counts (breaks_few before (frames_of s) p.frames) in
      ahead_found s p (omega arith) r b

  stepped : (f : Option Found) → found_at s p.at p.left ≡ f → Stepping before s p (step_by s p f)
  unfolding hearing_of
  stepped (Some found) e = past l.0 heard (record
      { rest = rest'; most = most'; counts = counts'; state = state' }) (add-one p.frames)
    where
      l : (p.frames < length (frames_of s)) × (part s found.first 18 ≡ get_or (frames_of s) p.frames [])
          × (frames_from s (found.first + 18) found.rest ≡ drop (suc p.frames) (frames_of s))
      l =
          left_some [] (frames_of s) p.frames (part s found.first 18) (frames_from s (found.first + 18) found.rest)
          (sym (frames_more s p.at p.left found e) ∙ q.rest)

      heard : hearing_of p.state (part s found.first 18)
          ≡ hearing_of (state_through before (take p.frames (frames_of s))) (get_or (frames_of s) p.frames [])
      heard = ap₂ hearing_of q.state l.1

      rest' : frames_from s (found.first + 18) found.rest ≡ drop (p.frames + 1) (frames_of s)
      rest' = rw add-one l.2

      most' : p.frames + 1 ≤ length (frames_of s)
      most' = omega (arith, l.0)

      last : p.state.last ≡ last_before before (frames_of s) (p.frames + 1)
      last = ap (λ (t : State). t.last) q.state ∙ through_last before (frames_of s) p.frames q.most

      counts' : counting p.counts p.state.last (hearing_of p.state (part s found.first 18)).reading
          ≡ counts_to before (frames_of s) (p.frames + 1)
      counts' =
          let n : p.frames + 1 - 1 ≡ p.frames = omega arith in
          ap₂ (λ (c : Counts) (f : List ℕ). counting c p.state.last (reading_of f)) q.counts
          (l.1 ∙ ap (λ (k : ℕ). get_or (frames_of s) k []) (sym n))
          ∙ ap (λ (t : Option ℕ). counting (counts_to before (frames_of s) p.frames) t
          (reading_of (frame_at (frames_of s) (p.frames + 1)))) last
          ∙ counts_more before (frames_of s) p.frames

      state' : (hearing_of p.state (part s found.first 18)).values.state
          ≡ state_through before (take (p.frames + 1) (frames_of s))
      state' =
          ap (λ (h : Hearing). h.values.state) heard ∙ sym (through_next before (frames_of s) p.frames l.0)
          ∙ ap (λ (k : ℕ). state_through before (take k (frames_of s))) (sym (add-one p.frames))
  stepped None e =
      let n = left_none [] (frames_of s) p.frames (sym (frames_none s p.at p.left e) ∙ q.rest) in
      let m : p.frames ≡ length (frames_of s) = omega (arith, q.most) in
      ended m (ap no_hearing (q.state ∙ ap (state_through before) (all m))) refl
    where
      all : p.frames ≡ length (frames_of s) → take p.frames (frames_of s) ≡ frames_of s
      all m = take_all p.frames (frames_of s) (omega arith)

  -- the step of a pass on its way hears the next frame and goes past it, or is at the end
  pub passing_next : Stepping before s p (next_of s p)
  unfolding next_of
  passing_next = rw ours (stepped (found_at s p.at p.left) refl)

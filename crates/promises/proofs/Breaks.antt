-- What a break is, and what lost frames are counted as: a recording without a break has SY in turn, and where frames
-- are lost the turn is missed at most once.
-- Assumes nothing.
use mathlib.Core.Path.{◌≡◌, ◌∙◌, sym, refl, ap, ap₂, subst}
use mathlib.Core.List.{List, [], ◌∷◌, ◌++◌, append-nil}
use mathlib.Core.Logic.{◌↔◌}
use Prim.Native.Nat.{ℕ, zero, suc, ◌+◌, ◌-◌, ◌*◌, ◌/◌, ◌%◌, ◌<◌, ◌≤◌}
use native.Mathlib.Omega.{arith}
use native.Mathlib.Decide.{ℕ_discrete, dec_lt}
use lib.ListN.{length, get_or, take, drop, length-append, length-drop, drop_of_length-le, get_or-append}
use lib.Seq.{length-take-le, take_all, take-append-le, drop-append-le, get_or-take, get_or-drop, get_or-append-add}
use Rattle.std.specs.Prelude.{Ok}
use Rattle.laws.specs.Total.{total}
use Rattle.laws.proofs.Total.{total_none, total_one, total_zero}
use Rattle.frame.specs.Answers.{reading_of}
use Rattle.frame.proofs.Readings.{reading_sync}
use Rattle.values.specs.Values.{fresh_state}
use Rattle.std.specs.Prelude.{Option, None, Some}
use Rattle.values.specs.declared.State.{State}
use Rattle.blocks.specs.Frames.{cut, eighteens, frames_in, frames_of}
use Rattle.blocks.specs.Made.{made, MadeFrom}
use Rattle.blocks.specs.declared.Heading.{Heading}
use Rattle.blocks.proofs.Passed.{blocks_none, blocks_more}
use Rattle.kept.proofs.Most.{made_long}
use Rattle.passes.specs.Counted.{breaks_at, break_of, frame_at, last_before, break_at}
use Rattle.passes.proofs.Counting.{break_one, break_none, break_small, last_behind}
use Rattle.passes.proofs.Hearings.{through_last}
use Rattle.passes.proofs.Passes.{frames_most}
use Rattle.recording.specs.Judged.{judged_of}
use Rattle.recording.specs.declared.Summary.{Summary}
use Rattle.promises.specs.Breaks.{sync_of, Breaks, first_of_all, first_here, later, BreakExactly, SyncRunsOn, Lost}
use Rattle.promises.specs.Parts.{joined}
use Rattle.promises.specs.Made.{made_summary}
use Rattle.promises.specs.Breaks.{LeftOut, OneLost, FirstLost, LastLost, TwoLost, ManyLost}
use Rattle.promises.proofs.Parts.{breaks_counted, frames_are_long}
use Rattle.promises.proofs.Made.{made_is_sound}

-- ---- what a break is

module _ (before : State) (frames : List (List ℕ)) where
  -- a later frame breaks at the SY of the frame before it
  break_later : (n : ℕ) → 1 ≤ n → break_at before frames (suc n) ≡ break_of (sync_of frames (suc n)) (sync_of frames n)
  break_later n h = ap (λ (t : Option ℕ). break_of (sync_of frames (suc n)) (breaks_at t))
      (last_behind before frames n (suc n) h (omega arith))

  -- and the first after a last SY at that
  break_first : (t : Option ℕ) → before.last ≡ t → break_at before frames 1 ≡ break_of (sync_of frames 1) (breaks_at t)
  break_first t e = ap (λ (l : Option ℕ). break_of (sync_of frames 1) (breaks_at l)) e

-- a frame is counted where its SY is the one at which it breaks
broken_at : (sy at : ℕ) → break_of sy at ≡ 1 → sy ≡ at
broken_at sy at e = go (ℕ_discrete sy at)
  where
    go : Dec (sy ≡ at) → sy ≡ at
    go (yes same) = same
    go (no w) = let z = break_none sy at w in absurd (omega arith)

pub break_exactly : BreakExactly
unfolding BreakExactly
break_exactly before frames zero h = absurd (omega arith)
break_exactly before frames (suc zero) h = (
  (λ e. there before.last refl e, back),
  break_small (sync_of frames 1)
      (breaks_at before.last),
)
  where
    there : (t : Option ℕ) → before.last ≡ t → break_at before frames 1 ≡ 1 → Breaks before frames 1
    there None l e = first_of_all l (broken_at (sync_of frames 1) 1 (sym (break_first before frames None l) ∙ e))
    there (Some sy) l e =
        first_here (l ∙ ap Some (sym (broken_at (sync_of frames 1) sy (sym (break_first before frames (Some sy) l) ∙ e))))

    back : Breaks before frames 1 → break_at before frames 1 ≡ 1
    back (first_of_all l e) = break_first before frames None l ∙ sym (break_one (sync_of frames 1) 1 e)
    back (first_here l) =
        break_first before frames (Some (sync_of frames 1)) l ∙ sym (break_one (sync_of frames 1) (sync_of frames 1) refl)
    back (later zero a e) = absurd (omega arith)
break_exactly before frames (suc (suc n)) h =
    ((there, back), break_small (sync_of frames (suc (suc n))) (breaks_at (last_before before frames (suc (suc n)))))
  where
    there : break_at before frames (suc (suc n)) ≡ 1 → Breaks before frames (suc (suc n))
    there e =
        let o : 1 ≤ suc n = omega arith in
        later (suc n) o
        (broken_at (sync_of frames (suc (suc n))) (sync_of frames (suc n))
        (sym (break_later before frames (suc n) o) ∙ e))

    back : Breaks before frames (suc (suc n)) → break_at before frames (suc (suc n)) ≡ 1
    back (later m a e) =
        break_later before frames (suc n) a ∙ sym (break_one (sync_of frames (suc (suc n))) (sync_of frames (suc n)) e)

pub sync_runs_on : SyncRunsOn
unfolding SyncRunsOn
sync_runs_on before s k a b =
    through_last before (frames_of s) k b ∙ last_behind before (frames_of s) k (k + 1) a refl

-- ---- SY in turn

-- frames of which none is a break: SY is 0 at the first and goes in turn from there
module _ (frames : List (List ℕ)) (count : ℕ)
    (unbroken : (n : ℕ) → 1 ≤ n → n ≤ count → break_at fresh_state frames n ≡ 0) where
  -- no SY is the one at which its frame would break
  not_there : (n at : ℕ) → 1 ≤ n → n ≤ count → break_at fresh_state frames n ≡ break_of (sync_of frames n) at
      → sync_of frames n ≡ at → ⊥
  not_there n at a b is e =
      let one = break_one (sync_of frames n) at e in
      let none = unbroken n a b in
      omega (arith, one, none, is)

  in_turn : (n : ℕ) → suc n ≤ count → sync_of frames (suc n) ≡ n % 2
  unfolding fresh_state
  in_turn zero h =
      let small = reading_sync (frame_at frames 1) in
      go (ℕ_discrete (sync_of frames 1) 1) small
    where
      go : Dec (sync_of frames 1 ≡ 1) → sync_of frames 1 < 2 → sync_of frames 1 ≡ 0 % 2
      go (yes e) small = absurd (not_there 1 1 (omega arith) (omega arith) (break_first fresh_state frames None refl) e)
      go (no w) small = omega arith
  in_turn (suc n) h =
      go (ℕ_discrete (sync_of frames (suc (suc n))) (sync_of frames (suc n))) (in_turn n (omega arith))
      (reading_sync (frame_at frames (suc (suc n))))
    where
      go : Dec (sync_of frames (suc (suc n)) ≡ sync_of frames (suc n)) → sync_of frames (suc n) ≡ n % 2
          → sync_of frames (suc (suc n)) < 2
          → sync_of frames (suc (suc n)) ≡ suc n % 2
      go (yes e) was small =
          absurd
          (not_there (suc (suc n)) (sync_of frames (suc n)) (omega arith) (omega arith)
          (break_later fresh_state frames (suc n) (omega arith)) e)
      go (no w) was small = omega arith

-- ---- lost frames

-- what a frame adds, by whether the two SY are the same
adds : (a b c : ℕ) → (a ≡ b → c ≡ 1) → ((a ≡ b → ⊥) → c ≡ 0) → break_of a b ≡ c
adds a b c same other = go (ℕ_discrete a b)
  where
    go : Dec (a ≡ b) → break_of a b ≡ c
    go (yes e) = sym (break_one a b e) ∙ sym (same e)
    go (no w) = sym (break_none a b w) ∙ sym (other w)

-- the frames that are left
abbrev left_of : List (List ℕ) → ℕ → ℕ → List (List ℕ)
left_of frames k m = take k frames ++ drop (k + m) frames

module _ (frames : List (List ℕ)) (k m : ℕ) (within : k + m ≤ length frames) where
  front_long : length (take k frames) ≡ k
  front_long = length-take-le k frames (omega arith)

  left_long : length (left_of frames k m) ≡ length frames - m
  left_long = simp (length-append, length-drop) (omega (arith, front_long))

  -- those before the gap are the ones that stood there, and those behind it the ones m frames on
  left_before : (j : ℕ) → j < k → get_or (left_of frames k m) j [] ≡ get_or frames j []
  left_before j h =
      let l : j < length (take k frames) = omega (arith, front_long) in
      get_or-append (take k frames) (drop (k + m) frames) [] j l ∙ get_or-take k frames j [] h

  left_behind : (j : ℕ) → get_or (left_of frames k m) (k + j) [] ≡ get_or frames (k + m + j) []
  left_behind j =
      let n : k + j ≡ length (take k frames) + j = omega (arith, front_long) in
      ap (λ (i : ℕ). get_or (left_of frames k m) i []) n ∙ get_or-append-add (take k frames) (drop (k + m) frames) j []
      ∙ get_or-drop (k + m) frames j []

module _ (frames : List (List ℕ)) (k m : ℕ) (within : k + m ≤ length frames)
    (unbroken : (n : ℕ) → 1 ≤ n → n ≤ length frames → break_at fresh_state frames n ≡ 0) where
  abbrev left : List (List ℕ)
  left = left_of frames k m

  -- where a frame stands in the other place, its SY is in turn there
  sync_there : (i j : ℕ) → j < length frames → get_or left i [] ≡ get_or frames j [] → sync_of left (suc i) ≡ j % 2
  sync_there i j h e =
      let n : suc i - 1 ≡ i = omega arith in
      let o : j ≡ suc j - 1 = omega arith in
      ap (λ (f : List ℕ). (reading_of f).indices.sy)
      (ap (λ (l : ℕ). get_or left l []) n ∙ e ∙ ap (λ (l : ℕ). get_or frames l []) o)
      ∙ in_turn frames (length frames) unbroken j (omega arith)

  sync_before : (j : ℕ) → j < k → sync_of left (suc j) ≡ j % 2
  sync_before j h = sync_there j j (omega arith) (left_before frames k m within j h)

  sync_behind : (j : ℕ) → k + m + j < length frames → sync_of left (suc (k + j)) ≡ (k + m + j) % 2
  sync_behind j h = sync_there (k + j) (k + m + j) h (left_behind frames k m within j)

  -- away from the gap no frame is a break
  first_away : 0 < k → break_at fresh_state left 1 ≡ 0
  unfolding fresh_state
  first_away h =
      let s = sync_before 0 h in
      break_first fresh_state left None refl ∙ adds (sync_of left 1) 1 0 (λ e. absurd (omega arith)) (λ w. refl)

  before_away : (i : ℕ) → suc i < k → break_at fresh_state left (suc (suc i)) ≡ 0
  before_away i h =
      let s = sync_before (suc i) h in
      let r = sync_before i (omega arith) in
      break_later fresh_state left (suc i) (omega arith)
      ∙ adds (sync_of left (suc (suc i))) (sync_of left (suc i)) 0 (λ e. absurd (omega arith)) (λ w. refl)

  behind_away : (i : ℕ) → k + m + suc i < length frames → break_at fresh_state left (suc (suc (k + i))) ≡ 0
  behind_away i h =
      let n : k + suc i ≡ suc (k + i) = omega arith in
      let s = ap (λ (j : ℕ). sync_of left (suc j)) (sym n) ∙ sync_behind (suc i) h in
      let r = sync_behind i (omega arith) in
      break_later fresh_state left (suc (k + i)) (omega arith)
      ∙ adds (sync_of left (suc (suc (k + i)))) (sync_of left (suc (k + i))) 0 (λ e. absurd (omega arith)) (λ w. refl)

  none_away : (n : ℕ) → 1 ≤ n → n ≤ length frames - m → (n ≡ suc k → ⊥) → break_at fresh_state left n ≡ 0
  none_away zero a b w = absurd (omega arith)
  none_away (suc zero) a b w = first_away (omega arith)
  none_away (suc (suc i)) a b w = go (dec_lt (suc i) k)
    where
      go : Dec (suc i < k) → break_at fresh_state left (suc (suc i)) ≡ 0
      go (yes h) = before_away i h
      go (no h) =
          let n : i ≡ k + (i - k) = omega arith in
          subst (λ (j : ℕ). break_at fresh_state left (suc (suc j)) ≡ 0) (sym n) (behind_away (i - k) (omega arith))

  -- behind the gap there is one where an odd number is gone
  at_gap : (j : ℕ) → k ≡ j → k + m < length frames → break_at fresh_state left (suc k) ≡ m % 2
  unfolding fresh_state
  at_gap zero e h =
      let n : k + 0 ≡ 0 = omega arith in
      let s = ap (λ (i : ℕ). sync_of left (suc i)) (sym n) ∙ sync_behind 0 (omega arith) in
      ap (λ (i : ℕ). break_at fresh_state left (suc i)) e
      ∙ break_first fresh_state left None refl
      ∙ adds (sync_of left 1) 1 (m % 2) (λ q. omega arith) (λ w. omega arith)
  at_gap (suc i) e h =
      let n : k + 0 ≡ suc i = omega arith in
      let s = ap (λ (j : ℕ). sync_of left (suc j)) (sym n) ∙ sync_behind 0 (omega arith) in
      let r = sync_before i (omega arith) in
      ap (λ (j : ℕ). break_at fresh_state left (suc j)) e
      ∙ break_later fresh_state left (suc i) (omega arith)
      ∙ adds (sync_of left (suc (suc i))) (sync_of left (suc i)) (m % 2) (λ q. omega arith) (λ w. omega arith)

  -- so they count together
  some_behind : k + m < length frames → total (break_at fresh_state left) (length left) ≡ m % 2
  some_behind h =
      ap (total (break_at fresh_state left)) (left_long frames k m within)
      ∙ total_one (break_at fresh_state left) (suc k) (length frames - m) (omega arith) (omega arith) none_away
      ∙ at_gap k refl h

  -- and where none is behind the gap, nothing
  none_behind : k + m ≡ length frames → total (break_at fresh_state left) (length left) ≡ 0
  none_behind h =
      ap (total (break_at fresh_state left)) (left_long frames k m within)
      ∙ total_none (break_at fresh_state left) (length frames - m) (λ n a b. none_away n a b (λ e. omega arith))

module _ {s t : List ℕ} {k m : ℕ} {x y : Summary} (lost : Lost s t k m x y) where
  -- no frame of the whole recording is a break
  none_broken : (n : ℕ) → 1 ≤ n → n ≤ length (frames_of s) → break_at fresh_state (frames_of s) n ≡ 0
  none_broken n a b =
      total_zero (break_at fresh_state (frames_of s)) (length (frames_of s))
      (sym (breaks_counted s x lost.whole) ∙ lost.unbroken) n a b

  -- what is counted is what is left
  left_counted : y.counts.breaks
      ≡ total (break_at fresh_state (left_of (frames_of s) k m)) (length (left_of (frames_of s) k m))
  left_counted =
      breaks_counted t y lost.sound
      ∙ ap (λ (l : List (List ℕ)). total (break_at fresh_state l) (length l)) lost.without

  lost_amid : k + m < length (frames_of s) → y.counts.breaks ≡ m % 2
  lost_amid h = left_counted ∙ some_behind (frames_of s) k m (omega arith) none_broken h

  lost_last : k + m ≡ length (frames_of s) → y.counts.breaks ≡ 0
  lost_last h = left_counted ∙ none_behind (frames_of s) k m (omega arith) none_broken h

pub many_lost : ManyLost
unfolding ManyLost
many_lost s t k m x y lost = (lost_amid lost, lost_last lost)

pub one_lost : OneLost
unfolding OneLost
one_lost s t k x y lost a h = lost_amid lost h

pub first_lost : FirstLost
unfolding FirstLost
first_lost s t x y lost h = lost_amid lost h

pub last_lost : LastLost
unfolding LastLost
last_lost s t k x y lost h = lost_last lost h

pub two_lost : TwoLost
unfolding TwoLost
two_lost s t k x y lost h = go (dec_lt (k + 2) (length (frames_of s)))
  where
    go : Dec (k + 2 < length (frames_of s)) → y.counts.breaks ≡ 0
    go (yes l) = lost_amid lost l
    go (no w) = lost_last lost (omega arith)

-- ---- there is such a recording

-- each of these frames is eighteen bytes
abbrev Long : List (List ℕ) → Type 0
Long fs = (k : ℕ) → k < length fs → length (get_or fs k []) ≡ 18

joined_long : (fs : List (List ℕ)) → Long fs → length (joined fs) ≡ 18 * length fs
unfolding joined
joined_long [] h = refl
joined_long (f ∷ fs) h =
    let a : length f ≡ 18 = h 0 (omega arith) in
    let b = joined_long fs (λ k l. h (suc k) (omega arith)) in
    simp length-append (omega (arith, a, b))

-- put together and cut they are the same again
cut_joined : (fs : List (List ℕ)) → Long fs → cut (length fs) (joined fs) ≡ fs
unfolding joined cut
cut_joined [] h = refl
cut_joined (f ∷ fs) h =
    let a : length f ≡ 18 = h 0 (omega arith) in
    ap₂ (λ (g : List ℕ) (r : List ℕ). g ∷ cut (length fs) r)
    (take-append-le 18 f (joined fs) (omega arith) ∙ take_all 18 f (omega arith))
    (drop-append-le 18 f (joined fs) (omega arith)
    ∙ ap (λ (r : List ℕ). r ++ joined fs) (drop_of_length-le f {i = 18} (omega arith)))
    ∙ ap (λ (r : List (List ℕ)). f ∷ r) (cut_joined fs (λ k l. h (suc k) (omega arith)))

-- so a voice block of them has these frames
block_frames : (fs : List (List ℕ)) → Long fs → frames_in (joined fs ∷ []) ≡ fs
unfolding frames_in
block_frames fs h =
    let l = joined_long fs h in
    let n : length (joined fs) / 18 ≡ length fs = omega arith in
    append-nil (eighteens (joined fs)) ∙ ap (λ (k : ℕ). cut k (joined fs)) n ∙ cut_joined fs h

-- some frames, few enough, are those of a recording of one voice block
module _ (heading : Heading) (fs : List (List ℕ)) (long : Long fs) (some : 0 < length fs) (few : length fs ≤ 3639) where
  abbrev payload : List ℕ
  payload = joined fs

  one_block : MadeFrom (made heading (payload ∷ [])) heading (payload ∷ [])
  one_block =
      let l = joined_long fs long in
      let m = made_long heading (payload ∷ []) in
      let a = blocks_more payload [] in
      let b = blocks_none in
      record {
        is = refl;
        short = omega (arith, m, a, b);
        some = omega arith;
        positive = λ k h. first (λ (p : List ℕ). 0 < length p) k h (omega arith);
        whole = λ k h. first (λ (p : List ℕ). length p % 18 ≡ 0) k h (omega arith);
      }
    where
      first : (P : List ℕ → Type 0) (k : ℕ) → k < 1 → P payload → P (get_or (payload ∷ []) k [])
      first P zero h p = p
      first P (suc k) h p = absurd (omega arith)

  recorded : (t : List ℕ) × (y : Summary) × (judged_of t ≡ Ok y) × (frames_of t ≡ fs)
  unfolding frames_of
  recorded =
      let t = made heading (payload ∷ []) in
      let e = made_is_sound t heading (payload ∷ []) one_block in
      (t, made_summary heading (payload ∷ []), e.0, ap frames_in e.1 ∙ block_frames fs long)

pub left_out : LeftOut
unfolding LeftOut
left_out s x e k m one within some =
    let most = frames_most s in
    let n = left_long (frames_of s) k m within in
    recorded x.heading (left_of (frames_of s) k m) long (omega arith) (omega arith)
  where
    long : Long (left_of (frames_of s) k m)
    long j h = go (dec_lt j k)
      where
        go : Dec (j < k) → length (get_or (left_of (frames_of s) k m) j []) ≡ 18
        go (yes l) = ap length (left_before (frames_of s) k m within j l) ∙ frames_are_long s j (omega arith)
        go (no w) =
            let n : j ≡ k + (j - k) = omega arith in
            let c = left_long (frames_of s) k m within in
            ap length
            (ap (λ (i : ℕ). get_or (left_of (frames_of s) k m) i []) n ∙ left_behind (frames_of s) k m within (j - k))
            ∙ frames_are_long s (k + m + (j - k)) (omega (arith, c))

-- The refusals of frames, records, delays and codes, shown: the answer meets its own condition, and no other answer's
-- is met.
-- Assumes nothing.
use mathlib.Core.Path.{◌≡◌, ◌∙◌, sym, refl, ap, subst}
use mathlib.Core.Bool.{Bool, true, false, true≢false}
use Rattle.std.specs.Prelude.{Option, None, Some, Ok, Err}
use mathlib.Core.List.{List, [], ◌∷◌}
use Prim.Native.Nat.{ℕ, ◌-◌, ◌<◌, ◌≤◌}
use native.Mathlib.Omega.{arith}
use native.Mathlib.Decide.{ℕ_discrete, dec_le}
use borrow.Author.Tests.{eq-eqb, ne_eqb, le-leb, lt-leb, lt-ltb, ltb-true, ltb-false}
use lib.Dec.{eqb}
use lib.IntN.{ℤ, pos}
use lib.ListN.{length}
use Rattle.laws.specs.Unless.{unless}
use Rattle.record.specs.Fields.{too_large_field}
use Rattle.record.specs.declared.Record.{Record}
use Rattle.record.proofs.Laws.{none_too_large, all_fit_none_too_large, lowest_too_large, too_large_at}
use Rattle.delays.specs.Table.{twelfths_of, printed_byte, rank_with}
use Rattle.delays.specs.Codes.{after_of, meant_by, coded_of, listed, in_window, base_of}
use Rattle.delays.specs.declared.CodeRefusal.{CodeRefusal}
use Rattle.delays.specs.declared.CodeRefusal.TheVariants as Meant
use Rattle.delays.specs.declared.DelayRefusal.{DelayRefusal}
use Rattle.delays.specs.declared.DelayRefusal.TheVariants.{NotListed, OutsideWindow}
use Rattle.std.specs.Prelude.{Result, Ok, Err}
use Rattle.delays.proofs.Table.{rank_twelfths, twelfths_rank}
use Rattle.delays.proofs.Laws.{Fit, fit_meant, after_below, after_in, window_step, codes_back, delays_back}
use Rattle.delays.proofs.Pairs as codes
use Rattle.lsp.specs.Table.{hertz_of, hz_in}
use Rattle.lsp.specs.Table as hertz
use Rattle.lsp.specs.declared.Refusal as lsp-refusal
use Rattle.lsp.specs.declared.Refusal.TheVariants as Lsp
use Rattle.lsp.proofs.Laws.{mark_in_order, in_order_mark, mark_falls, falls_mark}
use Rattle.lsp.proofs.Laws as lsps
use Rattle.codebook.specs.Code as code
use Rattle.codebook.specs.declared.Refusal as code_refusal
use Rattle.codebook.specs.declared.Refusal.TheVariants as Code
use Rattle.frame.specs.Frame.{frame_of}
use Rattle.frame.specs.Answers.{record_mark, read_of, read_refusal, Written, written_of, left_by, frame_left}
use Rattle.frame.specs.Answers.{refusal_of}
use Rattle.frame.specs.declared.Reading.{Reading}
use Rattle.frame.specs.declared.Refusal.TheVariants as Refusal
use Rattle.frame.proofs.Answered.{some_read, none_read, wrong_length, too_large, falling, expansion, accepted}
use Rattle.values.specs.Values.{sync_state, values_of}
use Rattle.values.specs.declared.State.{State}
use Rattle.values.specs.Outcome.{outcome_of}
use Rattle.values.specs.Outcome as outcome
use Rattle.values.specs.declared.Outcome.{Outcome}
use Rattle.values.specs.declared.Outcome.TheVariants.{Heard, TooLarge, Expansion, Nothing}
use Rattle.values.proofs.Laws.{by_outcome, outcome_too_large, outcome_expansion, outcome_heard, values_outcome}
use Rattle.values.proofs.Laws.{state_by}
use Rattle.values.proofs.Laws.{nothing_outcome, nothing_state, bits_are_widths}
use Rattle.pairs.specs.Pairs.{record_in}
use Rattle.verdicts.specs.Verdicts.{refused}
use Rattle.gateway.specs.Results.{result_of, read_answer, read_result, read_into, record_left}
use Rattle.gateway.specs.Results.{write_result, frame_left_by}
use Rattle.promises.specs.Refused.{ReaderRefuses, LowestTooLarge, Ordered, LowestFall, WriterGives, WriterRefuses}
use Rattle.promises.specs.Refused.{RefusedFrameStays, RefusedReadStays, RefusedWriteStays}
use Rattle.promises.specs.Refused.{HearingGives, HearingRefuses, RefusedStateStays, SyncAlone}
use Rattle.promises.specs.Refused.{ExpansionKeepsSync, NothingStays}
use Rattle.promises.specs.Refused.{AllWithin, LowestOver, HertzGives, HertzRefuses}
use Rattle.promises.specs.Refused.{FirstTooLarge, first_large, second_large, third_large, fourth_large}
use Rattle.promises.specs.Refused.{Means, MeaningGives, MeaningRefuses, Listed, Follows}
use Rattle.promises.specs.Refused.{FirstNotListed, first_unlisted, second_unlisted, third_unlisted}
use Rattle.promises.specs.Refused.{fourth_unlisted}
use Rattle.promises.specs.Refused.{FirstOutside, second_outside, fourth_outside, CodingGives, DelaysRefuse}
use Rattle.promises.specs.Refused.{CodeGives, CodeRefuses, RefusedCodeStays}

pub reader_refuses : ReaderRefuses
unfolding ReaderRefuses
reader_refuses s = (short, told)
  where
    short : read_refusal (read_of s) ≡ 1 → length s ≡ 18 → ⊥
    short e long =
        let z : read_refusal (read_of s) ≡ 0 = ap read_refusal (sym (some_read s long refl)) in omega arith

    told : (length s ≡ 18 → ⊥) → read_refusal (read_of s) ≡ 1
    told w = ap read_refusal (sym (none_read s w))

-- what `too_large_field` and the mark tell of a record, in the words of the conditions
module _ (r : Record) where
  lowest_large : (too_large_field r ≡ 0 → ⊥) → LowestTooLarge r (too_large_field r)
  lowest_large w =
      let one : 1 ≤ too_large_field r = omega (arith, w) in
      let l = lowest_too_large r (too_large_field r) refl one in
      record { from = one; upto = l.0; here = l.1; lower = l.2 }

  large_is : (f : ℕ) → LowestTooLarge r f → too_large_field r ≡ f
  large_is f l = too_large_at r f l.from l.upto l.here l.lower

  ordered : record_mark r ≡ 0 → Ordered r
  unfolding record_mark
  ordered e = mark_in_order (hz_in (hertz_of r.lsp)) e

  mark_zero : Ordered r → record_mark r ≡ 0
  unfolding record_mark
  mark_zero o = in_order_mark (hz_in (hertz_of r.lsp)) o

  lowest_fall : (record_mark r ≡ 0 → ⊥) → LowestFall r (record_mark r)
  unfolding record_mark
  lowest_fall w =
      let one : 1 ≤ record_mark r = omega (arith, w) in
      let m = mark_falls (hz_in (hertz_of r.lsp)) (record_mark r) refl one in
      record { from = one; upto = m.0; here = m.1; lower = m.2 }

  fall_is : (m : ℕ) → LowestFall r m → record_mark r ≡ m
  unfolding record_mark
  fall_is m l = falls_mark (hz_in (hertz_of r.lsp)) m l.from l.upto l.here l.lower

-- the writer
module _ (r : Record) (n : ℕ) where
  writer_gives : WriterGives r n (written_of r n)
  writer_gives = sized (ℕ_discrete n 18)
    where
      unset : n ≡ 18 → too_large_field r ≡ 0 → record_mark r ≡ 0 → Dec (r.sp ≡ 0) → WriterGives r n (written_of r n)
      unset e z m (yes s) = subst (WriterGives r n) (accepted r n e z m s) (e, none_too_large r z, ordered r m, s)
      unset e z m (no s) =
          let small : r.sp < 2 = none_too_large r z 27 (omega arith) (omega arith) in
          let one : r.sp ≡ 1 = omega (arith, s, small) in
          subst (WriterGives r n) (expansion r n e z m s) (e, none_too_large r z, ordered r m, one)

      rising : n ≡ 18 → too_large_field r ≡ 0 → Dec (record_mark r ≡ 0) → WriterGives r n (written_of r n)
      rising e z (yes m) = unset e z m (ℕ_discrete r.sp 0)
      rising e z (no w) = subst (WriterGives r n) (falling r n e z (record_mark r) refl w)
          (e, none_too_large r z, lowest_fall r w)

      fitting : n ≡ 18 → Dec (too_large_field r ≡ 0) → WriterGives r n (written_of r n)
      fitting e (yes z) = rising e z (ℕ_discrete (record_mark r) 0)
      fitting e (no w) = subst (WriterGives r n) (too_large r n e (too_large_field r) refl w) (e, lowest_large r w)

      sized : Dec (n ≡ 18) → WriterGives r n (written_of r n)
      sized (yes e) = fitting e (ℕ_discrete (too_large_field r) 0)
      sized (no w) = subst (WriterGives r n) (wrong_length r n w) w

  writer_only : (a : Written) → WriterGives r n a → written_of r n ≡ a
  writer_only (Err Refusal.WrongLength) w = sym (wrong_length r n w)
  writer_only (Err (Refusal.TooLarge f)) (e, l) =
      let f-from = l.from in
      sym (too_large r n e f (sym (large_is r f l)) (λ z. omega (arith, f-from, z)))
  writer_only (Err (Refusal.Falling m)) (e, fit, l) =
      let m-from = l.from in
      sym (falling r n e (all_fit_none_too_large r fit) m (sym (fall_is r m l)) (λ z. omega (arith, m-from, z)))
  writer_only (Err Refusal.Expansion) (e, fit, o, s) =
      sym (expansion r n e (all_fit_none_too_large r fit) (mark_zero r o) (λ z. omega (arith, s, z)))
  writer_only (Ok frame) (e, fit, o, s) = sym (accepted r n e (all_fit_none_too_large r fit) (mark_zero r o) s)

pub writer_refuses : WriterRefuses
unfolding WriterRefuses
writer_refuses r n a = (λ e. subst (WriterGives r n) e (writer_gives r n), writer_only r n a)

-- a refusal of the writer leaves what the buffer held
refused_left : (a : Written) (new old : List ℕ) → (refusal_of a ≡ 0 → ⊥) → left_by a new old ≡ old
refused_left (Ok frame) new old w = absurd (w refl)
refused_left (Err why) new old w = refl

pub refused_frame_stays : RefusedFrameStays
unfolding RefusedFrameStays frame_left
refused_frame_stays r s w = refused_left (written_of r (length s)) (frame_of r) s w

-- hearing
hearing_gives : (r : Record) → HearingGives r (outcome_of r)
hearing_gives r =
    by_outcome r (HearingGives r) (λ z s. (none_too_large r z, s)) (λ h. lowest_large r (λ z. omega arith))
    (λ z s. (none_too_large r z, s))

-- and no outcome is answered whose condition is not met
hearing_only : (r : Record) (o : Outcome) → HearingGives r o → outcome_of r ≡ o
hearing_only r (TooLarge f) l =
    let e = large_is r f l in
    let one = l.from in
    outcome_too_large r (omega (arith, e, one)) ∙ ap TooLarge e
hearing_only r Expansion (fit, s) = outcome_expansion r (all_fit_none_too_large r fit) s
hearing_only r Heard (fit, s) = outcome_heard r (all_fit_none_too_large r fit) s
hearing_only r Nothing g = absurd g

pub hearing_refuses : HearingRefuses
unfolding HearingRefuses
hearing_refuses r before o = (
  λ e. subst (HearingGives r) (sym (values_outcome r before) ∙ e) (hearing_gives r),
  λ g. values_outcome r before
      ∙ hearing_only r o g,
)

pub refused_state_stays : RefusedStateStays
unfolding RefusedStateStays
refused_state_stays r before two = go (outcome_of r) refl (ap outcome.refusal_of (sym (values_outcome r before)) ∙ two)
  where
    go : (o : Outcome) → outcome_of r ≡ o → outcome.refusal_of o ≡ 2 → (values_of r before).state ≡ before
    go Heard e n = absurd (omega arith)
    go (TooLarge f) e n = state_by r before e
    go Expansion e n = absurd (omega arith)
    go Nothing e n = absurd (omega arith)

pub expansion_keeps_sync : ExpansionKeepsSync
unfolding ExpansionKeepsSync
expansion_keeps_sync r before six = go (outcome_of r) refl (ap outcome.refusal_of (sym (values_outcome r before)) ∙ six)
  where
    alone : {after : State} → after ≡ sync_state before r.sy → SyncAlone before after r.sy
    alone e =
        record {
          hz = ap (λ (t : State). t.hz) e;
          last = ap (λ (t : State). t.last) e;
        }

    go : (o : Outcome) → outcome_of r ≡ o → outcome.refusal_of o ≡ 6 → SyncAlone before (values_of r before).state r.sy
    go Heard e n = absurd (omega arith)
    go (TooLarge f) e n = absurd (omega arith)
    go Expansion e n = alone (state_by r before e)
    go Nothing e n = absurd (omega arith)

pub nothing_stays : NothingStays
unfolding NothingStays
nothing_stays before = (nothing_outcome before, nothing_state before)

-- ten LSP indices in Hz: the bits of each are the width of its field
module _ (indices : List ℕ) where
  -- none is refused where every index fits its field
  all_within : hertz.too_large_field indices ≡ 0 → AllWithin indices
  all_within z j a b = rw (sym (bits_are_widths (j - 1) (omega arith))) (lsps.none_too_large indices z j a b)

  -- and the other way round
  within_none : AllWithin indices → hertz.too_large_field indices ≡ 0
  within_none w = lsps.all_fit indices (λ j a b. rw (bits_are_widths (j - 1) (omega arith)) (w j a b))

  -- what is told is the lowest that does not fit
  lowest_over : (hertz.too_large_field indices ≡ 0 → ⊥) → LowestOver indices (hertz.too_large_field indices)
  lowest_over w =
      let one : 1 ≤ hertz.too_large_field indices = omega (arith, w) in
      let l = lsps.lowest_too_large indices (hertz.too_large_field indices) refl one in
      let ten = l.0 in
      record {
        from = one;
        upto = l.0;
        here = rw (sym (bits_are_widths (hertz.too_large_field indices - 1) (omega arith))) l.1;
        lower = λ m a b. rw (sym (bits_are_widths (m - 1) (omega arith))) (l.2 m a b);
      }

  -- and the lowest that does not fit is told
  over_is : (j : ℕ) → LowestOver indices j → hertz.too_large_field indices ≡ j
  over_is j l =
      let one = l.from in
      let ten = l.upto in
      lsps.too_large_at indices j one ten (rw (bits_are_widths (j - 1) (omega arith)) l.here)
      (λ m a b. rw (bits_are_widths (m - 1) (omega arith)) (l.lower m a b))

  -- the verdict meets its own condition
  hertz_gives : HertzGives indices (hertz_of indices)
  hertz_gives = fitting (ℕ_discrete (hertz.too_large_field indices) 0)
    where
      fitting : Dec (hertz.too_large_field indices ≡ 0) → HertzGives indices (hertz_of indices)
      fitting (yes z) = subst (HertzGives indices) (sym (lsps.hertz_given indices z)) (all_within z, refl)
      fitting (no w) =
          subst (HertzGives indices) (sym (lsps.hertz_refused indices (omega (arith, w))))
          (lowest_over w)

  -- and no other verdict's is met
  hertz_only : (v : Result (List ℕ) lsp-refusal.Refusal) → HertzGives indices v → hertz_of indices ≡ v
  hertz_only (Ok hz) w = lsps.hertz_given indices (within_none w.0) ∙ ap Ok w.1
  hertz_only (Err (Lsp.TooLarge j)) l =
      let e = over_is j l in
      let one = l.from in
      lsps.hertz_refused indices (omega (arith, e, one)) ∙ ap (λ (k : ℕ). Err (Lsp.TooLarge k)) e

pub hertz_refuses : HertzRefuses
unfolding HertzRefuses
hertz_refuses indices v = (λ e. subst (HertzGives indices) e (hertz_gives indices), hertz_only indices v)

-- four codes
module _ (a b c d : ℕ) where
  -- as a list
  abbrev codes_given : List ℕ
  codes_given = a ∷ b ∷ c ∷ d ∷ []

  -- the first code that is too large is told
  large_only : {n : ℕ} → FirstTooLarge a b c d n → meant_by codes_given ≡ Err (Meant.TooLarge n)
  unfolding meant_by
  large_only (first_large h) = sym (codes.first_large a b c d h)
  large_only (second_large e h) = sym (codes.second_large a b c d e h)
  large_only (third_large e f h) = sym (codes.third_large a b c d e f h)
  large_only (fourth_large e f g h) = sym (codes.fourth_large a b c d e f g h)

  -- codes up to 255 and 63 fit eight and six bits
  fit_of : a ≤ 255 → b ≤ 63 → c ≤ 255 → d ≤ 63 → Fit a b c d
  fit_of e f g h = record { first = omega arith; second = omega arith; third = omega arith; fourth = omega arith }

  -- codes that fit mean what the definition says
  means_only : {w x y z : ℕ} → Means a b c d w x y z → meant_by codes_given ≡ Ok (w ∷ x ∷ y ∷ z ∷ [])
  unfolding meant_by
  means_only m =
      fit_meant a b c d (fit_of m.byte m.step m.next_byte m.next_step)
      ∙ rw (m.first, m.second, m.third, m.fourth) refl

  -- the meaning meets its own condition
  meaning_gives : MeaningGives a b c d (meant_by codes_given)
  meaning_gives = one (dec_le a 255)
    where
      told : {n : ℕ} → FirstTooLarge a b c d n → MeaningGives a b c d (meant_by codes_given)
      told l = subst (MeaningGives a b c d) (sym (large_only l)) l

      four : a ≤ 255 → b ≤ 63 → c ≤ 255 → Dec (d ≤ 63) → MeaningGives a b c d (meant_by codes_given)
      four e f g (no h) = told (fourth_large e f g (omega (arith, h)))
      four e f g (yes h) =
          let m : Means a b c d _ _ _ _ =
          record {
            byte = e;
            step = f;
            next_byte = g;
            next_step = h;
            first = refl;
            second = refl;
            third = refl;
            fourth = refl;
          } in
          subst (MeaningGives a b c d) (sym (means_only m)) m

      three : a ≤ 255 → b ≤ 63 → Dec (c ≤ 255) → MeaningGives a b c d (meant_by codes_given)
      three e f (no g) = told (third_large e f (omega (arith, g)))
      three e f (yes g) = four e f g (dec_le d 63)

      two : a ≤ 255 → Dec (b ≤ 63) → MeaningGives a b c d (meant_by codes_given)
      two e (no f) = told (second_large e (omega (arith, f)))
      two e (yes f) = three e f (dec_le c 255)

      one : Dec (a ≤ 255) → MeaningGives a b c d (meant_by codes_given)
      one (no e) = told (first_large (omega (arith, e)))
      one (yes e) = two e (dec_le b 63)

  -- and no other's is met
  meaning_only : (m : Result (List ℕ) CodeRefusal) → MeaningGives a b c d m → meant_by codes_given ≡ m
  meaning_only (Err (Meant.TooLarge n)) l = large_only l
  meaning_only (Ok (w ∷ x ∷ y ∷ z ∷ [])) m = means_only m
  meaning_only (Ok _) m = absurd m

pub meaning_refuses : MeaningRefuses
unfolding MeaningRefuses
meaning_refuses a b c d m = (λ e. subst (MeaningGives a b c d) e (meaning_gives a b c d), meaning_only a b c d m)

-- delays: the tests of the definition, in the words of the conditions
pub listed_yes : (delay : ℕ) → listed delay ≡ true → Listed delay
listed_yes delay e =
    let h : rank_with delay < 256 = ltb-true (rank_with delay) 256 e in
    (rank_with delay, h, twelfths_rank delay h)

-- a delay that is the twelfths of some rank passes the test
pub listed_test : (delay : ℕ) → Listed delay → listed delay ≡ true
listed_test delay (rank, h, e) =
    let same : rank_with delay ≡ rank = ap rank_with (sym e) ∙ rank_twelfths rank h in
    lt-ltb (rank_with delay) 256 (omega (arith, same, h))

-- one that fails it is of none
pub listed_no : (delay : ℕ) → listed delay ≡ false → Listed delay → ⊥
listed_no delay e l =
    let h = ltb-false (rank_with delay) 256 e in
    let g = ltb-true (rank_with delay) 256 (listed_test delay l) in
    omega (arith, h, g)

-- and one of none fails it
pub unlisted_test : (delay : ℕ) → (Listed delay → ⊥) → listed delay ≡ false
unlisted_test delay w = go (listed delay) refl
  where
    go : (t : Bool) → listed delay ≡ t → listed delay ≡ false
    go true e = absurd (w (listed_yes delay e))
    go false e = e

-- the second is in the window of the first
module _ (a b : ℕ) (second : Listed b) where
  -- a rank in the window is meant by some six-bit code
  follows_yes : in_window (rank_with a) (rank_with b) ≡ true → Follows a b
  follows_yes e =
      let s = window_step (rank_with a) (rank_with b) e in (
        rank_with b - base_of (rank_with a),
        s.0,
        ap twelfths_of s.1
            ∙ twelfths_rank b (ltb-true (rank_with b) 256 (listed_test b second)),
      )

  -- and a delay that some six-bit code means is in the window
  follows_test : Follows a b → in_window (rank_with a) (rank_with b) ≡ true
  follows_test (step, h, e) =
      ap (in_window (rank_with a)) (ap rank_with (sym e) ∙
      rank_twelfths (after_of (rank_with a) step) (after_below (rank_with a) step h))
      ∙ after_in (rank_with a) step h

  -- outside the window no code means it
  follows_no : in_window (rank_with a) (rank_with b) ≡ false → Follows a b → ⊥
  follows_no e f = true≢false (sym (follows_test f) ∙ e)

  -- and where none does it is outside
  outside_test : (Follows a b → ⊥) → in_window (rank_with a) (rank_with b) ≡ false
  outside_test w = go (in_window (rank_with a) (rank_with b)) refl
    where
      go : (t : Bool) → in_window (rank_with a) (rank_with b) ≡ t → in_window (rank_with a) (rank_with b) ≡ false
      go true e = absurd (w (follows_yes e))
      go false e = e

-- four delays
module _ (a b c d : ℕ) where
  -- as a list
  abbrev delays_given : List ℕ
  delays_given = a ∷ b ∷ c ∷ d ∷ []

  -- the answer, test by test
  refused_first : listed a ≡ false → coded_of delays_given ≡ Err (NotListed 1)
  unfolding coded_of
  refused_first e = rw e

  -- the second is not listed
  refused_second : listed a ≡ true → listed b ≡ false → coded_of delays_given ≡ Err (NotListed 2)
  unfolding coded_of
  refused_second e f = rw (e, f)

  -- the second is outside the window of the first
  outside_second : listed a ≡ true → listed b ≡ true → in_window (rank_with a) (rank_with b) ≡ false
      → coded_of delays_given ≡ Err (OutsideWindow 2)
  unfolding coded_of
  outside_second e f g = rw (e, f, g)

  module _ (one : listed a ≡ true) (two : listed b ≡ true) (near : in_window (rank_with a) (rank_with b) ≡ true) where
    refused_third : listed c ≡ false → coded_of delays_given ≡ Err (NotListed 3)
    unfolding coded_of
    refused_third e = rw (one, two, near, e)

    refused_fourth : listed c ≡ true → listed d ≡ false → coded_of delays_given ≡ Err (NotListed 4)
    unfolding coded_of
    refused_fourth e f = rw (one, two, near, e, f)

    outside_fourth : listed c ≡ true → listed d ≡ true → in_window (rank_with c) (rank_with d) ≡ false
        → coded_of delays_given ≡ Err (OutsideWindow 4)
    unfolding coded_of
    outside_fourth e f g = rw (one, two, near, e, f, g)

    all_sent : listed c ≡ true → listed d ≡ true → in_window (rank_with c) (rank_with d) ≡ true
        → coded_of delays_given ≡ Ok (printed_byte (rank_with a) ∷ (rank_with b - base_of (rank_with a)) ∷
        printed_byte (rank_with c) ∷ (rank_with d - base_of (rank_with c)) ∷ [])
    unfolding coded_of
    all_sent e f g = rw (one, two, near, e, f, g)

  -- the condition of an answer to these four
  abbrev Given : Result (List ℕ) DelayRefusal → Type 0
  Given x = CodingGives a b c d x

  -- the answer is refused or sent as its condition says
  coding_gives : CodingGives a b c d (coded_of delays_given)
  coding_gives = first (listed a) refl
    where
      last : listed a ≡ true → listed b ≡ true → in_window (rank_with a) (rank_with b) ≡ true → listed c ≡ true → listed d
          ≡ true
          → (t : Bool) → in_window (rank_with c) (rank_with d) ≡ t → Given (coded_of delays_given)
      last e f g h i false j =
          subst Given (sym (outside_fourth e f g h i j))
          (fourth_outside (listed_yes a e) (listed_yes b f) (follows_yes a b (listed_yes b f) g) (listed_yes c h)
          (listed_yes d i)
          (follows_no c d (listed_yes d i) j))
      last e f g h i true j = subst Given (sym (all_sent e f g h i j))
          (delays_back a b c d _ _ _ _ (all_sent e f g h i j))

      fourth : listed a ≡ true → listed b ≡ true → in_window (rank_with a) (rank_with b) ≡ true → listed c ≡ true
          → (t : Bool) → listed d ≡ t → Given (coded_of delays_given)
      fourth e f g h false i =
          subst Given (sym (refused_fourth e f g h i))
          (fourth_unlisted (listed_yes a e) (listed_yes b f) (follows_yes a b (listed_yes b f) g) (listed_yes c h)
          (listed_no d i))
      fourth e f g h true i = last e f g h i (in_window (rank_with c) (rank_with d)) refl

      third : listed a ≡ true → listed b ≡ true → in_window (rank_with a) (rank_with b) ≡ true → (t : Bool) → listed c ≡ t
          → Given (coded_of delays_given)
      third e f g false h =
          subst Given (sym (refused_third e f g h))
          (third_unlisted (listed_yes a e) (listed_yes b f) (follows_yes a b (listed_yes b f) g) (listed_no c h))
      third e f g true h = fourth e f g h (listed d) refl

      near : listed a ≡ true → listed b ≡ true → (t : Bool) → in_window (rank_with a) (rank_with b) ≡ t
          → Given (coded_of delays_given)
      near e f false g =
          subst Given (sym (outside_second e f g)) (second_outside (listed_yes a e) (listed_yes b f)
          (follows_no a b (listed_yes b f) g))
      near e f true g = third e f g (listed c) refl

      second : listed a ≡ true → (t : Bool) → listed b ≡ t → Given (coded_of delays_given)
      second e false f = subst Given (sym (refused_second e f)) (second_unlisted (listed_yes a e) (listed_no b f))
      second e true f = near e f (in_window (rank_with a) (rank_with b)) refl

      first : (t : Bool) → listed a ≡ t → Given (coded_of delays_given)
      first false e = subst Given (sym (refused_first e)) (first_unlisted (listed_no a e))
      first true e = second e (listed b) refl

  -- where a delay is the first that is not listed it is refused with 4
  not_listed_only : {n : ℕ} → FirstNotListed a b c d n → coded_of delays_given ≡ Err (NotListed n)
  not_listed_only (first_unlisted w) = refused_first (unlisted_test a w)
  not_listed_only (second_unlisted p w) = refused_second (listed_test a p) (unlisted_test b w)
  not_listed_only (third_unlisted p q f w) = refused_third (listed_test a p) (listed_test b q) (follows_test a b q f)
      (unlisted_test c w)
  not_listed_only (fourth_unlisted p q f s w) =
      refused_fourth (listed_test a p) (listed_test b q) (follows_test a b q f) (listed_test c s) (unlisted_test d w)

  -- where one is the first outside its window it is refused with 5
  outside_only : {n : ℕ} → FirstOutside a b c d n → coded_of delays_given ≡ Err (OutsideWindow n)
  outside_only (second_outside p q w) = outside_second (listed_test a p) (listed_test b q) (outside_test a b q w)
  outside_only (fourth_outside p q f s t w) =
      outside_fourth (listed_test a p) (listed_test b q) (follows_test a b q f) (listed_test c s) (listed_test d t)
      (outside_test c d t w)

  -- so no answer is given whose condition is not met
  coding_only : (x : Result (List ℕ) DelayRefusal) → CodingGives a b c d x → coded_of delays_given ≡ x
  coding_only (Err (NotListed n)) g = not_listed_only g
  coding_only (Err (OutsideWindow n)) g = outside_only g
  coding_only (Ok (i ∷ j ∷ k ∷ l ∷ [])) g = codes_back i j k l g
  coding_only (Ok _) g = absurd g

pub delays_refuse : DelaysRefuse
unfolding DelaysRefuse
delays_refuse a b c d x = (λ e. subst (CodingGives a b c d) e (coding_gives a b c d), coding_only a b c d x)

-- codes
code_gives : (index n : ℕ) → CodeGives index n (code.written_of index n)
code_gives index n = sized (ℕ_discrete n 60)
  where
    indexed : n ≡ 60 → Dec (index ≤ 511) → CodeGives index n (code.written_of index n)
    indexed e (yes h) = rw (eq-eqb n 60 e, le-leb index 511 h) (e, h)
    indexed e (no h) = rw (eq-eqb n 60 e, lt-leb index 511 (omega (arith, h))) (e, omega (arith, h))

    sized : Dec (n ≡ 60) → CodeGives index n (code.written_of index n)
    sized (yes e) = indexed e (dec_le index 511)
    sized (no w) = rw (ne_eqb n 60 w) w

-- no answer is given whose condition is not met
code_only : (index n : ℕ) (a : Result (Unit {0}) code_refusal.Refusal) → CodeGives index n a → code.written_of index n ≡ a
code_only index n (Err Code.WrongLength) w = rw (ne_eqb n 60 w)
code_only index n (Err Code.TooLarge) (e, h) = rw (eq-eqb n 60 e, lt-leb index 511 h)
code_only index n (Ok u) (e, h) = rw (eq-eqb n 60 e, le-leb index 511 h)

pub code_refuses : CodeRefuses
unfolding CodeRefuses
code_refuses index n a = (λ e. subst (CodeGives index n) e (code_gives index n), code_only index n a)

-- a refusal leaves what the buffer held
code_left_lem : (a : Result (Unit {0}) code_refusal.Refusal) (index : ℕ) (l : List ℤ) → (code.refusal_of a ≡ 0 → ⊥) → code.left_after a index l
    ≡ l
code_left_lem (Ok u) index l w = absurd (w refl)
code_left_lem (Err e) index l w = refl

pub refused_code_stays : RefusedCodeStays
unfolding RefusedCodeStays code.code_left
refused_code_stays index l w = code_left_lem (code.written_of index (length l)) index l w

-- the C boundary: no number of 0 or more is a refusal's result
pub refused_read_stays : RefusedReadStays
unfolding RefusedReadStays read_result record_left
refused_read_stays s o = sized (eqb (length o) 56)
  where
    told : (a : Option Reading) → ((n : ℕ) → read_answer a ≡ pos n → ⊥) → read_into a o ≡ o
    told (Some a) w = absurd (w (result_of a) refl)
    told None w = refl

    sized : (t : Bool) → ((n : ℕ) → unless t (refused 1) (read_answer (read_of s)) ≡ pos n → ⊥)
        → unless t o (read_into (read_of s) o) ≡ o
    sized true w = told (read_of s) w
    sized false w = refl

pub refused_write_stays : RefusedWriteStays
unfolding RefusedWriteStays write_result frame_left_by frame_left
refused_write_stays s o = sized (eqb (length s) 56)
  where
    sized : (t : Bool) → ((n : ℕ) → refused (unless t 1 (refusal_of (written_of (record_in s) (length o)))) ≡ pos n → ⊥)
        → unless t o (left_by (written_of (record_in s) (length o)) (frame_of (record_in s)) o) ≡ o
    sized true w = refused_left (written_of (record_in s) (length o)) (frame_of (record_in s)) o (λ e. w 0 (ap refused e))
    sized false w = refl

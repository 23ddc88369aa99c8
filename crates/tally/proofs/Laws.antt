-- What is promised of the tally book, shown.
-- Assumes nothing.
use mathlib.Core.Path.{◌≡◌, ◌∙◌, sym, refl, ap, ap₂, subst}
use mathlib.Core.Bool.{Bool, true, false, cond}
use mathlib.Core.List.{List, [], ◌∷◌, ◌++◌, append-nil}
use Prim.Native.Nat.{ℕ, zero, suc, ◌+◌, ◌*◌, ◌<◌, ◌≤◌}
use native.Mathlib.Omega.{arith}
use lib.Dec.{eqb}
use lib.ListN.{length, get_or, set, length-set}
use lib.Seq.{get_or-set_same}
use Rattle.std.specs.Prelude.{Ok, Err}
use Rattle.laws.specs.Tabulate.{tabulate_from, tabulate}
use Rattle.blocks.specs.Walk.{walked_of}
use Rattle.blocks.specs.Frames.{if_sound}
use Rattle.blocks.specs.Refusals as blocks
use Rattle.blocks.specs.declared.Cause.{Cause}
use Rattle.blocks.specs.Walk.{Ending}
use Rattle.tally.specs.Tally.{most, has_key, holding_in, total_in, tally_of, entries_then, number_of}
use Rattle.tally.specs.Book.{entries_in, entry_at, entries_of, emptied, tallied, book_by, book_then}
use Rattle.tally.specs.Entering.{recording_entry, entering_by, entering_of, book_after_recording, refusal_of, tells_of}
use Rattle.tally.specs.History.{Call, enter, recording, answer_of, book_after, book_after_all, entry_in, entries_for}
use Rattle.tally.specs.History.{if_accepted, accepted_in, distinct, IsBook, EmptyBook, Among, Reordered, none, next}
use Rattle.tally.specs.History.{swapped, further}
use Rattle.tally.specs.Promised.{held_for, TallyRefuses, RecordingFirst, TallyStands, TotalFits, ClearedEmpty}
use Rattle.tally.specs.Promised.{NoKeyTwice, TotalOfFirsts, HeldIfAccepted, SameAnswers, EitherOrder, AnyOrder}
use Rattle.tally.specs.Promised.{again, SameAgain}
use Rattle.tally.specs.declared.Entry.{Entry}
use Rattle.tally.proofs.Rows.{entries_fit, entries_told, entries_length, row_holds}
use Rattle.tally.proofs.Keys.{held_among, distinct_holds}
use Rattle.tally.proofs.Ways.{Way, held, other, full, new, answered, ways, fresh, taken, taken_answers, Same}
use Rattle.tally.proofs.Laid.{then_long, then_entries}
use Rattle.tally.proofs.Ways.{exchanged}
use Rattle.tally.proofs.Histories.{after, accepts, after_append, accepts_append, firsts, taken_held}
use Rattle.tally.proofs.Histories.{accepted_held, NoTwice, after_twice, all_accepts, reordered, all_taken}
use Rattle.std.specs.Prelude.{Some, None, Result, Ok, Err}
use Rattle.tally.specs.declared.Tallied.{Tallied}
use Rattle.tally.specs.declared.Tallied.TheVariants.{Entered, AlreadyHeld}
use Rattle.tally.specs.declared.Refusal.{Refusal}
use Rattle.tally.specs.declared.Refusal.TheVariants.{OtherCount, Full}
use Rattle.tally.specs.declared.RecordingRefusal.{RecordingRefusal}
use Rattle.tally.specs.declared.RecordingRefusal.TheVariants.{Unsound}
use Rattle.tally.specs.Entering.{of_entry}

-- ---- one call

-- what an answer tells of the book, by the ways of entering
module _ (b : List ℕ) (e : Entry) where
  long : length (entries_of b) ≡ entries_in b
  long = entries_length b

  from_held : (t : Result Tallied Refusal) → Way (entries_of b) e t → t ≡ Ok AlreadyHeld → held_for b e ≡ Some e.count
  from_held (Ok AlreadyHeld) (held h) q = h
  from_held (Err OtherCount) (other c h n) q = let z : ◌≡◌ {A = ℕ} 0 1 = cc in absurd (omega arith)
  from_held (Err Full) (full h l) q = let z : ◌≡◌ {A = ℕ} 0 1 = cc in absurd (omega arith)
  from_held (Ok Entered) (new h l) q = let z : ◌≡◌ {A = ℕ} 0 1 = cc in absurd (omega arith)

  from_other : (t : Result Tallied Refusal) → Way (entries_of b) e t → number_of t ≡ 13
      → (count : ℕ) × (held_for b e ≡ Some count) × (count ≡ e.count → ⊥)
  from_other (Ok AlreadyHeld) (held h) q = absurd (omega arith)
  from_other (Err OtherCount) (other c h n) q = (c, h, n)
  from_other (Err Full) (full h l) q = absurd (omega arith)
  from_other (Ok Entered) (new h l) q = absurd (omega arith)

  from_full : (t : Result Tallied Refusal) → Way (entries_of b) e t → number_of t ≡ 14 → (held_for b e ≡ None) × (entries_in b ≡ most)
  from_full (Ok AlreadyHeld) (held h) q = absurd (omega arith)
  from_full (Err OtherCount) (other c h n) q = absurd (omega arith)
  from_full (Err Full) (full h l) q = (h, omega (arith, long, entries_fit b))
  from_full (Ok Entered) (new h l) q = absurd (omega arith)

  from_entered : (t : Result Tallied Refusal) → Way (entries_of b) e t → t ≡ Ok Entered → (held_for b e ≡ None) × (entries_in b < most)
  from_entered (Ok AlreadyHeld) (held h) q = let z : ◌≡◌ {A = ℕ} 0 1 = cc in absurd (omega arith)
  from_entered (Err OtherCount) (other c h n) q = let z : ◌≡◌ {A = ℕ} 0 1 = cc in absurd (omega arith)
  from_entered (Err Full) (full h l) q = let z : ◌≡◌ {A = ℕ} 0 1 = cc in absurd (omega arith)
  from_entered (Ok Entered) (new h l) q = (h, omega (arith, long))

pub tally_refuses : TallyRefuses
unfolding TallyRefuses
tally_refuses b e =
    let w = ways (entries_of b) e in
    let n = entries_length b in (
      (from_held b e (tallied b e) w, λ h. answered (entries_of b) e (Ok AlreadyHeld) (held h)),
      (
        from_other b e (tallied b e) w,
        λ h. ap number_of (answered (entries_of b) e (Err OtherCount) (other h.0 h.1 h.2)),
      ),
      (
        from_full b e (tallied b e) w,
        λ h. ap number_of (answered (entries_of b) e (Err Full) (full h.0 (omega (arith, n, h.1)))),
      ),
      (from_entered b e (tallied b e) w, λ h. answered (entries_of b) e (Ok Entered) (new h.0 (omega (arith, n, h.1)))),
    )

-- an answer about an entry, as one about its recording, has its number and tells nothing
pub same_number : (t : Result Tallied Refusal) → refusal_of (of_entry t) ≡ number_of t
same_number (Ok tallied) = refl
same_number (Err refusal) = refl

tells_nothing : (t : Result Tallied Refusal) → tells_of (of_entry t) ≡ []
tells_nothing (Ok tallied) = refl
tells_nothing (Err refusal) = refl

-- no cause of a refusal has the number 0
cause_numbered : (cause : Cause) → blocks.refusal_of cause ≡ 0 → ⊥
cause_numbered Cause.TooLong h = omega arith
cause_numbered (Cause.HeaderCut p) h = omega arith
cause_numbered (Cause.PastEnd p) h = omega arith
cause_numbered (Cause.WrongSize p size) h = omega arith
cause_numbered (Cause.UnknownKind p) h = omega arith
cause_numbered (Cause.OutOfTurn p) h = omega arith
cause_numbered (Cause.EndMissing p) h = omega arith
cause_numbered (Cause.WrongCount p) h = omega arith
cause_numbered (Cause.Extra p) h = omega arith

pub recording_first : RecordingFirst
unfolding RecordingFirst entering_of
recording_first b s count = by (walked_of s).ending
  where
    by : (ending : Ending)
        → ((blocks.ending_refusal ending ≡ 0 → ⊥)
        → (refusal_of (entering_by ending b (recording_entry s count)) ≡ blocks.ending_refusal ending)
        × (tells_of (entering_by ending b (recording_entry s count)) ≡ blocks.ending_tells ending))
        × (blocks.ending_refusal ending ≡ 0
        → (entering_by ending b (recording_entry s count) ≡ of_entry (tallied b (recording_entry s count)))
        × (tells_of (entering_by ending b (recording_entry s count)) ≡ []))
    by (Ok _) = (λ h. absurd (h refl), λ h. (refl, tells_nothing (tallied b (recording_entry s count))))
    by (Err cause) = (λ h. (refl, refl), λ h. absurd (cause_numbered cause h))

-- a call is refused only by an answer that leaves the book
tally_leaves : (t : Result Tallied Refusal) (b : List ℕ) (e : Entry) → (t ≡ Ok Entered → ⊥) → book_by t b e ≡ b
tally_leaves (Ok Entered) b e h = absurd (h refl)
tally_leaves (Ok AlreadyHeld) b e h = refl
tally_leaves (Err refusal) b e h = refl

then_leaves : (b : List ℕ) (e : Entry) → (tallied b e ≡ Ok Entered → ⊥) → book_then b e ≡ b
unfolding book_then
then_leaves b e h = tally_leaves (tallied b e) b e h

-- so of an entry, by what its answer is not
refused_leaves : (b : List ℕ) (e : Entry) → (refusal_of (of_entry (tallied b e)) ≡ 0 → ⊥) → book_then b e ≡ b
refused_leaves b e h = then_leaves b e (λ q. h (ap (λ (t : Result Tallied Refusal). refusal_of (of_entry t)) q))

held_leaves : (b : List ℕ) (e : Entry) → of_entry (tallied b e) ≡ Ok AlreadyHeld → book_then b e ≡ b
held_leaves b e h =
    then_leaves b e (λ q. not_both (tallied b e) h q)
  where
    not_both : (t : Result Tallied Refusal) → of_entry t ≡ Ok AlreadyHeld → t ≡ Ok Entered → ⊥
    not_both (Ok tallied) p q = let z : ◌≡◌ {A = ℕ} 0 1 = cc in omega arith
    not_both (Err refusal) p q = let z : ◌≡◌ {A = ℕ} 0 1 = cc in omega arith

-- and of a call: a recording that is sound is entered, and one that is not leaves the book
abbrev Leaves : List ℕ → Result Tallied RecordingRefusal → List ℕ → Type 0
Leaves b answer later =
    ((refusal_of answer ≡ 0 → ⊥) → later ≡ b) × (answer ≡ Ok AlreadyHeld → later ≡ b)

pub tally_stands : TallyStands
unfolding TallyStands entering_of book_after_recording
tally_stands b (enter e) = (refused_leaves b e, held_leaves b e)
tally_stands b (recording s count) = by (walked_of s).ending
  where
    by : (ending : Ending) → Leaves b (entering_by ending b (recording_entry s count))
        (if_sound ending (book_then b (recording_entry s count)) b)
    by (Ok _) = (refused_leaves b (recording_entry s count), held_leaves b (recording_entry s count))
    by (Err cause) = (λ h. refl, λ h. refl)

-- no row adds more than 32 bits hold
share_fits : (t : Bool) (count : ℕ) → count < 4294967296 → cond t count 0 ≤ 4294967295
share_fits true count h = omega arith
share_fits false count h = omega arith

rows_fit : (b : List ℕ) (unit : ℕ) → ((i : ℕ) → get_or b i 0 < 4294967296) → (n i : ℕ)
    → total_in (tabulate_from i (entry_at b) n) unit ≤ n * 4294967295
unfolding tabulate_from total_in
rows_fit b unit h zero i = omega arith
rows_fit b unit h (suc n) i =
    let a = rows_fit b unit h n (suc i) in
    let s = share_fits (eqb (get_or b (4097 + i) 0) unit) (get_or b (8193 + i) 0) (h (8193 + i)) in
    omega (arith, a, s)

pub total_fits : TotalFits
unfolding TotalFits entries_of
total_fits b unit h =
    let f = entries_fit b in
    let a = rows_fit b unit h (entries_in b) 0 in
    (f, omega (arith, a, f))

-- ---- histories

-- an entry entered by itself
alone_after : (es : List Entry) (e : Entry) → entries_then es e ≡ after es (e ∷ [])
unfolding after
alone_after es e = refl

alone_accepts : (es : List Entry) (e : Entry) → if_accepted (of_entry (tally_of es e)) (e ∷ []) ≡ accepts es (e ∷ [])
unfolding accepts
alone_accepts es e =
    ap (λ (n : ℕ). cond (eqb n 0) (e ∷ []) []) (same_number (tally_of es e)) ∙ sym (append-nil _)

-- a call: it stays a book, its entries are those after what the call would enter, and of that it is accepted what is
pub record Stepped (b : List ℕ) (later : List ℕ) (answer : Result Tallied RecordingRefusal) (es : List Entry) : Type 0 where
  pub book : IsBook later
  pub entries : entries_of later ≡ after (entries_of b) es
  pub accepted : if_accepted answer es ≡ accepts (entries_of b) es

entered_step : (b : List ℕ) (e : Entry) → IsBook b → Stepped b (book_then b e) (of_entry (tallied b e)) (e ∷ [])
entered_step b e book =
    record {
      book = then_long b e book;
      entries = then_entries b e book ∙ alone_after (entries_of b) e;
      accepted = alone_accepts (entries_of b) e;
    }

refused_step : (b : List ℕ) (cause : Cause) → IsBook b → Stepped b b (Err (Unsound cause)) []
unfolding after accepts
refused_step b cause book =
    record { book = book; entries = refl; accepted = none_left (eqb (blocks.refusal_of cause) 0) }
  where
    none_left : (t : Bool) → cond t [] [] ≡ accepts (entries_of b) []
    none_left true = refl
    none_left false = refl

call_step : (b : List ℕ) (c : Call) → IsBook b → Stepped b (book_after b c) (answer_of b c) (entry_in c)
unfolding entering_of book_after_recording
call_step b (enter e) book = entered_step b e book
call_step b (recording s count) book = by (walked_of s).ending
  where
    by : (ending : Ending)
        → Stepped b (if_sound ending (book_then b (recording_entry s count)) b)
        (entering_by ending b (recording_entry s count))
        (if_sound ending (recording_entry s count ∷ []) [])
    by (Ok _) = entered_step b (recording_entry s count) book
    by (Err cause) = refused_step b cause book

-- a history in the same way
pub record Run (b : List ℕ) (h : List Call) : Type 0 where
  pub book : IsBook (book_after_all b h)
  pub entries : entries_of (book_after_all b h) ≡ after (entries_of b) (entries_for h)
  pub accepted : accepted_in b h ≡ accepts (entries_of b) (entries_for h)

pub run : (h : List Call) (b : List ℕ) → IsBook b → Run b h
unfolding book_after_all entries_for accepted_in after accepts
run [] b book = record { book = book; entries = refl; accepted = refl }
run (c ∷ h) b book =
    let w = call_step b c book in
    let r = run h (book_after b c) w.book in
    record {
      book = r.book;
      entries =
          r.entries
          ∙ ap (λ (es : List Entry). after es (entries_for h)) w.entries
          ∙ sym (after_append (entries_of b) (entry_in c) (entries_for h));
      accepted =
          ap₂ ◌++◌ w.accepted (r.accepted ∙ ap (λ (es : List Entry). accepts es (entries_for h)) w.entries)
          ∙ sym (accepts_append (entries_of b) (entry_in c) (entries_for h));
    }

-- from an empty book on: it has no entries, and those after a history are the first of each key among the accepted
none_told : (b : List ℕ) → EmptyBook b → entries_of b ≡ []
unfolding entries_of tabulate_from
none_told b e =
    let h : entries_in b ≡ 0 = sym (entries_told b (omega (arith, e.none))) ∙ e.none in
    ap (tabulate (entry_at b)) h

pub cleared_empty : ClearedEmpty
unfolding ClearedEmpty emptied
cleared_empty b book =
    let e : EmptyBook (set b 0 0) =
    record { book = simp length-set book; none = get_or-set_same b 0 0 0 (omega arith) }
    in
    (e, none_told (set b 0 0) e)

module _ (b : List ℕ) (h : List Call) (e : EmptyBook b) where
  ran : Run b h
  ran = run h b e.book

  ran_firsts : entries_of (book_after_all b h) ≡ distinct (accepted_in b h)
  unfolding distinct
  ran_firsts =
      ran.entries
      ∙ firsts (entries_for h) [] (entries_of b) (none_told b e)
      ∙ ap distinct (sym ran.accepted)

  ran_accepted : (x : Entry) → Among x (accepted_in b h)
      → holding_in (entries_of (book_after_all b h)) x.unit x.number ≡ Some x.count
  ran_accepted x m =
      ap (λ (es : List Entry). holding_in es x.unit x.number) ran.entries
      ∙ accepted_held (entries_for h) (entries_of b) x (subst (Among x) ran.accepted m)

  ran_twice : (d : Entry) → NoTwice d (entries_of (book_after_all b h))
  ran_twice d =
      subst (NoTwice d) (sym ran.entries)
      (after_twice d (entries_for h) (entries_of b)
      (subst (NoTwice d) (sym (none_told b e)) (record { apart = λ i j l m. absurd (omega arith) })))

pub no_key_twice : NoKeyTwice
unfolding NoKeyTwice
no_key_twice b h e = (
  (ran b h e).book,
  λ i j l m.
      let c = book_after_all b h in
      let d = entry_at c i in
      let n = entries_length c in
      let k : j < length (entries_of c) = omega (arith, n) in
      let x = row_holds c i d (omega arith) in
      let y = row_holds c j d m in
      sym (ap₂ (λ (v w : Entry). has_key v.unit v.number w) x y) ∙ (ran_twice b h e d).apart i j l k,
)

pub total_of_firsts : TotalOfFirsts
unfolding TotalOfFirsts
total_of_firsts b h e = (
  λ unit. ap (λ (es : List Entry). total_in es unit) (ran_firsts b h e),
  sym (entries_length (book_after_all b h)) ∙ ap length (ran_firsts b h e),
)

pub held_if_accepted : HeldIfAccepted
unfolding HeldIfAccepted
held_if_accepted b h e unit number =
    let f : holding_in (entries_of (book_after_all b h)) unit number ≡ holding_in (accepted_in b h) unit number =
    ap (λ (es : List Entry). holding_in es unit number) (ran_firsts b h e) ∙ distinct_holds (accepted_in b h) unit number
    in
    (f, λ count. (λ q. held_among (accepted_in b h) unit number count (sym f ∙ q), λ m. ran_accepted b h e _ m))

-- ---- orders

-- books whose entries answer alike
same_books : (b c : List ℕ) {es fs : List Entry} → entries_of b ≡ es → entries_of c ≡ fs → Same es fs → SameAnswers b c
same_books b c p q s =
    record {
      totals = λ u.
          ap (λ (l : List Entry). total_in l u) p ∙ s.totals u ∙ sym (ap (λ (l : List Entry). total_in l u) q);
      held = λ u n.
          ap (λ (l : List Entry). holding_in l u n) p ∙ s.holds u n ∙ sym (ap (λ (l : List Entry). holding_in l u n) q);
      entries = sym (entries_length b) ∙ ap length p ∙ s.long ∙ sym (ap length q) ∙ entries_length c;
    }

pub either_order : EitherOrder
unfolding EitherOrder
either_order b x y book d p q =
    let ex = then_entries b x book in
    let ey = then_entries b y book in
    let exy = then_entries (book_then b x) y (then_long b x book) ∙ ap (λ (l : List Entry). entries_then l y) ex in
    let eyx = then_entries (book_then b y) x (then_long b y book) ∙ ap (λ (l : List Entry). entries_then l x) ey in
    let w =
    exchanged (entries_of b) x y d (taken (entries_of b) x p)
    (taken (entries_then (entries_of b) x) y (sym (ap (λ (l : List Entry). number_of (tally_of l y)) ex) ∙ q))
    in (
      taken_answers (entries_of b) y w.first,
      ap (λ (l : List Entry). number_of (tally_of l x)) ey ∙ taken_answers (entries_then (entries_of b) y) x w.second,
      same_books _ _ exy eyx w.same,
    )

-- the entries of two orders of calls are two orders of entries
in_front : (k : List Entry) {l m : List Entry} → Reordered l m → Reordered (k ++ l) (k ++ m)
in_front [] r = r
in_front (x ∷ k) r = next x (in_front k r)

as_it_is : (l : List Entry) → Reordered l l
as_it_is [] = none
as_it_is (x ∷ l) = next x (as_it_is l)

-- of two calls each has one entry or none
pub data Few : List Entry → Type 0 where
  no_entry : Few []
  one : (e : Entry) → Few (e ∷ [])

few : (c : Call) → Few (entry_in c)
few (enter e) = one e
few (recording s count) = by (walked_of s).ending
  where
    by : (ending : Ending) → Few (if_sound ending (recording_entry s count ∷ []) [])
    by (Ok _) = one (recording_entry s count)
    by (Err cause) = no_entry

few_swapped : {k j : List Entry} → Few k → Few j → (l : List Entry) → Reordered (k ++ (j ++ l)) (j ++ (k ++ l))
few_swapped no_entry no_entry l = as_it_is l
few_swapped no_entry (one y) l = next y (as_it_is l)
few_swapped (one x) no_entry l = next x (as_it_is l)
few_swapped (one x) (one y) l = swapped x y l

entries_reordered : {h g : List Call} → Reordered h g → Reordered (entries_for h) (entries_for g)
unfolding entries_for
entries_reordered none = none
entries_reordered (next c r) = in_front (entry_in c) (entries_reordered r)
entries_reordered (swapped c d l) = few_swapped (few c) (few d) (entries_for l)
entries_reordered (further r s) = further (entries_reordered r) (entries_reordered s)

pub any_order : AnyOrder
unfolding AnyOrder distinct
any_order b h g e r agree fit =
    let v = ran b h e in
    let w = ran b g e in
    let a = all_taken (entries_for h) [] (entries_of b) (none_told b e) agree fit in
    let o = reordered (entries_reordered r) (entries_of b) a in (
      v.accepted ∙ all_accepts (entries_for h) (entries_of b) a,
      w.accepted ∙ all_accepts (entries_for g) (entries_of b) o.0,
      same_books _ _ v.entries w.entries o.1,
    )

-- ---- the same again

-- a second time: what was entered is already held, and else nothing has moved
abbrev once_more : Result Tallied Refusal → Result Tallied Refusal
once_more (Ok tallied) = Ok AlreadyHeld
once_more (Err refusal) = Err refusal

never_new : (t : Result Tallied Refusal) → once_more t ≡ Ok Entered → ⊥
never_new (Ok tallied) q = let z : ◌≡◌ {A = ℕ} 0 1 = cc in omega arith
never_new (Err refusal) q = let z : ◌≡◌ {A = ℕ} 0 1 = cc in omega arith

again_done : (t : Result Tallied Refusal) → of_entry (once_more t) ≡ again (of_entry t)
again_done (Ok tallied) = refl
again_done (Err refusal) = refl

module _ (b : List ℕ) (e : Entry) (book : IsBook b) where
  moved_by : {t : Result Tallied Refusal} → tallied b e ≡ t → book_then b e ≡ book_by t b e
  unfolding book_then
  moved_by q = ap (λ (t : Result Tallied Refusal). book_by t b e) q

  second_answer : (t : Result Tallied Refusal) → tallied b e ≡ t → Way (entries_of b) e t → tallied (book_then b e) e ≡ once_more t
  second_answer (Ok AlreadyHeld) q (held h) = ap (λ (x : List ℕ). tallied x e) (moved_by q) ∙ q
  second_answer (Err OtherCount) q (other c h n) = ap (λ (x : List ℕ). tallied x e) (moved_by q) ∙ q
  second_answer (Err Full) q (full h l) = ap (λ (x : List ℕ). tallied x e) (moved_by q) ∙ q
  second_answer (Ok Entered) q (new h l) =
      answered (entries_of (book_then b e)) e (Ok AlreadyHeld)
      (held
      (ap (λ (es : List Entry). holding_in es e.unit e.number) (then_entries b e book)
      ∙ taken_held (entries_of b) e (fresh h l)))

  second : tallied (book_then b e) e ≡ once_more (tallied b e)
  second = second_answer (tallied b e) refl (ways (entries_of b) e)

  pub entry_again : (of_entry (tallied (book_then b e) e) ≡ again (of_entry (tallied b e)))
      × (book_then (book_then b e) e ≡ book_then b e)
  entry_again = (
    ap of_entry second ∙ again_done (tallied b e),
    then_leaves (book_then b e) e (λ q. never_new (tallied b e) (sym second ∙ q)),
  )

-- so an entry that was accepted is already held
accepted_more : (t : Result Tallied Refusal) → number_of t ≡ 0 → once_more t ≡ Ok AlreadyHeld
accepted_more (Ok tallied) h = refl
accepted_more (Err OtherCount) h = absurd (omega arith)
accepted_more (Err Full) h = absurd (omega arith)

pub accepted_again : (b : List ℕ) (e : Entry) → IsBook b → number_of (tallied b e) ≡ 0
    → tallied (book_then b e) e ≡ Ok AlreadyHeld
accepted_again b e book h = second b e book ∙ accepted_more (tallied b e) h

pub same_again : SameAgain
unfolding SameAgain entering_of book_after_recording
same_again b (enter e) book = entry_again b e book
same_again b (recording s count) book = by (walked_of s).ending
  where
    by : (ending : Ending)
        → (entering_by ending (if_sound ending (book_then b (recording_entry s count)) b) (recording_entry s count)
        ≡ again (entering_by ending b (recording_entry s count)))
        × (if_sound ending (book_then (if_sound ending (book_then b (recording_entry s count)) b) (recording_entry s count))
        (if_sound ending (book_then b (recording_entry s count)) b)
        ≡ if_sound ending (book_then b (recording_entry s count)) b)
    by (Ok _) = entry_again b (recording_entry s count) book
    by (Err cause) = (refl, refl)

-- The walk gives a refusal exactly when its condition is met at a block that is reached, and none earlier is.
-- Assumes nothing.
use mathlib.Core.Path.{◌≡◌, ◌∙◌, sym, refl, ap, subst}
use mathlib.Core.Bool.{Bool, true, false, not, cond}
use mathlib.Core.List.{List, [], ◌∷◌}
use Prim.Native.Nat.{ℕ, suc, ◌+◌, ◌<◌, ◌≤◌}
use native.Mathlib.Omega.{arith}
use native.Mathlib.Decide.{ℕ_discrete, dec_lt, dec_le}
use borrow.Author.Tests.{eq-eqb, ne_eqb, eqb-true, eqb-false, ltb-true, ltb-false, leb-true, leb-false, le-leb}
use lib.Dec.{T, eqb, leb, ltb}
use lib.ListN.{length, get_or}
use Rattle.std.specs.Prelude.{Result, Ok, Err}
use Rattle.std.specs.declared.ops.ControlFlow.TheVariants.{Continue, Break}
use Rattle.laws.specs.Bytes.{word_at}
use Rattle.laws.specs.Table.{both, all_below}
use Rattle.laws.specs.Place.{place_in}
use Rattle.laws.proofs.Table.{both_left, both_right, below}
use Rattle.laws.proofs.Chosen.{chosen}
use Rattle.blocks.specs.Blocks.{size_at, kind_at, right_size, heading_at, of_kind, block_at}
use Rattle.blocks.specs.Walk.{longest, refuse, past_head_of, past_voice_of, ending_at, met, step_of, at_start, walk_from}
use Rattle.blocks.specs.Walk.{walked_of}
use Rattle.blocks.specs.Frames.{frames_of}
use Rattle.blocks.specs.Refusals.{refusal_of}
use Rattle.values.specs.Values.{fresh_state}
use Rattle.passes.specs.Counted.{counts_of}
use Rattle.recording.specs.Judged.{summary_of, judged_by, judged_of}
use Rattle.promises.specs.Rule.{known_kind, in_turn, Condition, order, tried, NumbersInTurn, NoneMet}
use Rattle.promises.specs.Rule.{ClearBefore, Reached, Given}
use Rattle.promises.specs.Rule.{Accepted, RefusedExactly, BlockFaultsTold, RefusedKeeps, SoundExactly}
use Rattle.promises.specs.Rule.Reached.{at_first, past_head, past_voice}
use Rattle.blocks.specs.declared.Cause.{Cause}
use Rattle.blocks.specs.declared.Cause.TheVariants.{TooLong, HeaderCut, PastEnd, WrongSize, UnknownKind}
use Rattle.blocks.specs.declared.Cause.TheVariants.{OutOfTurn, EndMissing, WrongCount, Extra}
use Rattle.blocks.specs.declared.Block.{Block}
use Rattle.blocks.specs.Walk.{Ending}
use Rattle.blocks.specs.declared.Walked.{Walked}
use Rattle.blocks.specs.declared.Walk.{Walk}
use Rattle.blocks.specs.Walk.{Moved}
use Rattle.recording.specs.declared.Summary.{Summary}
use Rattle.blocks.proofs.Blocks.{end_size}
use Rattle.blocks.proofs.Walks as walks

-- ---- one cause at a time

-- the cause of each order, with what it tells at a walk
cause_by : List ℕ → Walk → ℕ → Cause
cause_by s w n =
    get_or
    (TooLong ∷ HeaderCut w.at ∷ PastEnd w.at ∷ WrongSize w.at (size_at s w.at) ∷ UnknownKind w.at
    ∷ OutOfTurn w.at ∷ EndMissing (length s) ∷ WrongCount w.at ∷ Extra (w.at + 6 + 4) ∷ [])
    n TooLong

-- a cause whose condition is met is the one of its order
named : (s : List ℕ) (w : Walk) (c : Cause) → Condition s w c → c ≡ cause_by s w (order c)
unfolding cause_by
named s w TooLong q = refl
named s w (HeaderCut p) q = ap HeaderCut q.0
named s w (PastEnd p) q = ap PastEnd q.0
named s w (WrongSize p size) q = ap (λ (n : ℕ). WrongSize n size) q.0 ∙ ap (WrongSize w.at) q.1
named s w (UnknownKind p) q = ap UnknownKind q.0
named s w (OutOfTurn p) q = ap OutOfTurn q.0
named s w (EndMissing p) q = ap EndMissing q.0
named s w (WrongCount p) q = ap WrongCount q.0
named s w (Extra p) q = ap Extra q.0

-- there are nine
order_small : (c : Cause) → order c < 9
order_small TooLong = omega arith
order_small (HeaderCut p) = omega arith
order_small (PastEnd p) = omega arith
order_small (WrongSize p size) = omega arith
order_small (UnknownKind p) = omega arith
order_small (OutOfTurn p) = omega arith
order_small (EndMissing p) = omega arith
order_small (WrongCount p) = omega arith
order_small (Extra p) = omega arith

-- one more that is not met
clear_more : (s : List ℕ) (w : Walk) (n : ℕ) → ClearBefore s w n → (Condition s w (cause_by s w n) → ⊥)
    → ClearBefore s w (suc n)
clear_more s w n clear none c l q = go (ℕ_discrete (order c) n)
  where
    go : Dec (order c ≡ n) → ⊥
    go (yes e) = none (subst (Condition s w) (named s w c q ∙ ap (cause_by s w) e) q)
    go (no e) = clear c (omega arith) q

-- none that comes before the ninth is none at all
clear_all : (s : List ℕ) (w : Walk) → ClearBefore s w 9 → NoneMet s w
clear_all s w clear c q = clear c (order_small c) q

-- of two that are met and are each the first, there is one
first_alone : (s : List ℕ) (w : Walk) (c d : Cause) → Condition s w c → ClearBefore s w (order c) → Condition s w d
    → ClearBefore s w (order d) → c ≡ d
first_alone s w c d p a q b = named s w c p ∙ ap (cause_by s w) same ∙ sym (named s w d q)
  where
    same : order c ≡ order d
    same = go (dec_lt (order c) (order d)) (dec_lt (order d) (order c))
      where
        go : Dec (order c < order d) → Dec (order d < order c) → order c ≡ order d
        go (yes l) e = absurd (b c l p)
        go (no l) (yes m) = absurd (a d m q)
        go (no l) (no m) = omega arith

-- ---- the numbers in their turn

-- the turn of the number of each order
turn_by : ℕ → ℕ
turn_by n = place_in (refusal_of (cause_by [] at_start n)) tried

-- a cause's number has the turn of its order
by_order : (c : Cause) → place_in (refusal_of c) tried ≡ turn_by (order c)
unfolding turn_by cause_by
by_order TooLong = refl
by_order (HeaderCut p) = refl
by_order (PastEnd p) = refl
by_order (WrongSize p size) = refl
by_order (UnknownKind p) = refl
by_order (OutOfTurn p) = refl
by_order (EndMissing p) = refl
by_order (WrongCount p) = refl
by_order (Extra p) = refl

-- each has a turn, and a later order has no earlier one: computed over each pair of orders
rising : ℕ → ℕ → Bool
rising m n = both (leb (suc (turn_by m)) (length tried)) (cond (leb m n) (leb (turn_by m) (turn_by n)) true)

-- it is so
all_rising : T (all_below 9 (λ m. all_below 9 (rising m)))
unfolding rising turn_by cause_by place_in
all_rising = tt

-- a test that passes says so
passes : (a b : ℕ) → T (leb a b) → a ≤ b
passes a b t = go (leb a b) refl t
  where
    go : (x : Bool) → leb a b ≡ x → T x → a ≤ b
    go true e t = leb-true a b e
    go false e t = absurd t

-- so a later order has no earlier turn
rises : (m n : ℕ) → m < 9 → n < 9 → m ≤ n → (turn_by m ≤ turn_by n) × (turn_by m < length tried)
unfolding rising
rises m n a b h =
    let t = below (rising m) 9 (below (λ m. all_below 9 (rising m)) 9 all_rising m a) n b in
    let u = both_right (leb (suc (turn_by m)) (length tried)) (cond (leb m n) (leb (turn_by m) (turn_by n)) true) t in (
      passes (turn_by m) (turn_by n) (subst (λ (x : Bool). T (cond x (leb (turn_by m) (turn_by n)) true)) (le-leb m n h)
          u),
      passes (suc (turn_by m)) (length tried)
          (both_left (leb (suc (turn_by m)) (length tried)) (cond (leb m n) (leb (turn_by m) (turn_by n)) true) t),
    )

pub numbers_in_turn : NumbersInTurn
numbers_in_turn c d h = rw (by_order c, by_order d) (rises (order c) (order d) (order_small c) (order_small d) h)

-- ---- kinds and turns as tests

-- a test does not come out both ways
clash : (b : Bool) → b ≡ true → b ≡ false → ⊥
clash b p q = let z : ◌≡◌ {A = ℕ} 0 1 = cc in omega arith

module _ {kind : ℕ} where
  -- a kind that is none of the three is unknown; each of the three is known
  kind_other : (kind ≡ 1 → ⊥) → (kind ≡ 2 → ⊥) → (kind ≡ 3 → ⊥) → known_kind kind ≡ false
  unfolding known_kind
  kind_other a b c = rw (ne_eqb kind 1 a, ne_eqb kind 2 b, ne_eqb kind 3 c)

  known_head : kind ≡ 1 → known_kind kind ≡ true
  unfolding known_kind
  known_head e = rw (eq-eqb kind 1 e)

  known_voice : kind ≡ 2 → known_kind kind ≡ true
  unfolding known_kind
  known_voice e = rw e

  known_end : kind ≡ 3 → known_kind kind ≡ true
  unfolding known_kind
  known_end e = rw e

  -- the turn of each kind
  module _ (w : Walk) where
    turn_head : kind ≡ 1 → in_turn w kind ≡ not w.headed
    unfolding in_turn
    turn_head e = rw e

    turn_voice : kind ≡ 2 → in_turn w kind ≡ w.headed
    unfolding in_turn
    turn_voice e = rw e

    turn_end : kind ≡ 3 → in_turn w kind ≡ ltb 0 w.frames
    unfolding in_turn
    turn_end e = rw e

-- ---- what a step sees

-- a step refuses by the first condition that is met, or passes a block at which none is
data Seen (s : List ℕ) (w : Walk) : Moved → Type 0 where
  seen_refused : (c : Cause) → Condition s w c → ClearBefore s w (order c) → Seen s w (refuse c)
  seen_head : NoneMet s w → kind_at s w.at ≡ 1 → Seen s w (Continue (past_head_of w (heading_at s w.at)))
  seen_voice : NoneMet s w → kind_at s w.at ≡ 2 → Seen s w (Continue (past_voice_of w (size_at s w.at)))
  seen_end : NoneMet s w → kind_at s w.at ≡ 3 → Seen s w (Break (Ok tt))

module _ (s : List ℕ) (w : Walk) (inside : w.at ≤ length s) (short : length s ≤ longest) where
  abbrev kind : ℕ
  kind = kind_at s w.at

  abbrev size : ℕ
  size = size_at s w.at

  -- nothing comes before the first
  clear_none : ClearBefore s w 0
  clear_none c l q = omega arith

  -- not too long
  clear_long : ClearBefore s w 1
  unfolding cause_by
  clear_long = clear_more s w 0 clear_none (λ q. omega arith)

  -- nothing left
  see_nothing : length s ≤ w.at → Seen s w (refuse (EndMissing (length s)))
  unfolding cause_by
  see_nothing h =
      let e : w.at ≡ length s = omega arith in
      seen_refused (EndMissing (length s)) (refl, e)
      (clear_more s w 5
      (clear_more s w 4
      (clear_more s w 3
      (clear_more s w 2 (clear_more s w 1 clear_long (λ q. omega (arith, q.1))) (λ q. omega (arith, q.1)))
      (λ q. omega (arith, q.2))) (λ q. omega (arith, q.1))) (λ q. omega (arith, q.1)))

  -- the conditions that are not met, one more as each is seen not to be
  module _ (whole : w.at + 6 ≤ length s) where
    clear_cut : ClearBefore s w 2
    unfolding cause_by
    clear_cut = clear_more s w 1 clear_long (λ q. omega (arith, q.2))

    module _ (fits : w.at + 6 + size ≤ length s) where
      clear_past : ClearBefore s w 3
      unfolding cause_by
      clear_past = clear_more s w 2 clear_cut (λ q. omega (arith, q.2))

      module _ (right : right_size kind size ≡ true) where
        clear_size : ClearBefore s w 4
        unfolding cause_by
        clear_size = clear_more s w 3 clear_past (λ q. clash (right_size kind size) right q.3)

        module _ (known : known_kind kind ≡ true) where
          clear_kind : ClearBefore s w 5
          unfolding cause_by
          clear_kind = clear_more s w 4 clear_size (λ q. clash (known_kind kind) known q.2)

          see_turn : in_turn w kind ≡ false → Seen s w (refuse (OutOfTurn w.at))
          see_turn h = seen_refused (OutOfTurn w.at) (refl, whole, h) clear_kind

          module _ (turn : in_turn w kind ≡ true) where
            clear_turn : ClearBefore s w 7
            unfolding cause_by
            clear_turn =
                clear_more s w 6 (clear_more s w 5 clear_kind (λ q. clash (in_turn w kind) turn q.2))
                (λ q. omega (arith, q.1))

            clean_unless_end : (kind ≡ 3 → ⊥) → NoneMet s w
            unfolding cause_by
            clean_unless_end n =
                clear_all s w (clear_more s w 8 (clear_more s w 7 clear_turn (λ q. n q.2)) (λ q. n q.1))

            clear_count : word_at s (w.at + 6) ≡ w.frames → ClearBefore s w 8
            unfolding cause_by
            clear_count count = clear_more s w 7 clear_turn (λ q. q.3 count)

            clean_end : word_at s (w.at + 6) ≡ w.frames → length s ≤ w.at + 6 + 4 → NoneMet s w
            unfolding cause_by
            clean_end count h = clear_all s w (clear_more s w 8 (clear_count count) (λ q. omega (arith, q.2)))

        -- what a block of the right size does, by its kind
        see_end : kind ≡ 3 → Seen s w (Break (ending_at (length s) w.at w.frames (word_at s (w.at + 6))))
        see_end k =
            chosen (λ (x : Ending). Seen s w (Break x)) (ltb 0 w.frames) (λ a.
            chosen (λ (x : Ending). Seen s w (Break x)) (eqb (word_at s (w.at + 6)) w.frames) (λ b.
            chosen (λ (x : Ending). Seen s w (Break x)) (eqb (length s) (w.at + 6 + 4)) (λ c.
            let e = eqb-true (length s) (w.at + 6 + 4) c in
            seen_end (clean_end (known_end k) (turn_end w k ∙ a) (eqb-true (word_at s (w.at + 6)) w.frames b)
            (omega (arith, e))) k)
            (λ c.
            let e = eqb-false (length s) (w.at + 6 + 4) c in
            let z = end_size kind size right k in
            seen_refused (Extra (w.at + 6 + 4)) (refl, k, omega (arith, e, z, fits))
            (clear_count (known_end k) (turn_end w k ∙ a) (eqb-true (word_at s (w.at + 6)) w.frames b))))
            (λ b.
            seen_refused (WrongCount w.at) (refl, whole, k, eqb-false (word_at s (w.at + 6)) w.frames b)
            (clear_turn (known_end k) (turn_end w k ∙ a))))
            (λ a. see_turn (known_end k) (turn_end w k ∙ a))

        see_kind : Seen s w (met s w (of_kind s w.at kind))
        see_kind =
            chosen (λ (b : Result Block Cause). Seen s w (met s w b)) (eqb kind 1) (λ a.
            let k : kind ≡ 1 = eqb-true kind 1 a in
            chosen (Seen s w) (not w.headed)
            (λ t. seen_head (clean_unless_end (known_head k) (turn_head w k ∙ t) (λ z. omega arith)) k)
            (λ t. see_turn (known_head k) (turn_head w k ∙ t)))
            (λ a.
            chosen (λ (b : Result Block Cause). Seen s w (met s w b)) (eqb kind 2) (λ b.
            let k : kind ≡ 2 = eqb-true kind 2 b in
            chosen (Seen s w) w.headed
            (λ t. seen_voice (clean_unless_end (known_voice k) (turn_voice w k ∙ t) (λ z. omega arith)) k)
            (λ t. see_turn (known_voice k) (turn_voice w k ∙ t)))
            (λ b.
            chosen (λ (b : Result Block Cause). Seen s w (met s w b)) (eqb kind 3) (λ c. see_end (eqb-true kind 3 c))
            (λ c.
            seen_refused (UnknownKind w.at) (
              refl,
              whole,
              kind_other (eqb-false kind 1 a) (eqb-false kind 2 b)
                  (eqb-false kind 3 c),
            )
            clear_size)))

  -- any step
  seen : Seen s w (step_of s w)
  unfolding step_of block_at
  seen =
      chosen (λ (b : Result Block Cause). Seen s w (met s w b)) (ltb w.at (length s)) (λ a.
      chosen (λ (b : Result Block Cause). Seen s w (met s w b)) (leb (w.at + 6) (length s)) (λ b.
      let whole = leb-true (w.at + 6) (length s) b in
      chosen (λ (b : Result Block Cause). Seen s w (met s w b)) (leb (w.at + 6 + size) (length s)) (λ c.
      let fits = leb-true (w.at + 6 + size) (length s) c in
      chosen (λ (b : Result Block Cause). Seen s w (met s w b)) (right_size kind size) (see_kind whole fits)
      (λ r. seen_refused (WrongSize w.at size) (refl, refl, whole, r) (clear_past whole fits)))
      (λ c. seen_refused (PastEnd w.at) (refl, whole, leb-false (w.at + 6 + size) (length s) c)
      (clear_cut whole)))
      (λ b.
      seen_refused (HeaderCut w.at) (refl, ltb-true w.at (length s) a, leb-false (w.at + 6) (length s) b)
      clear_long))
      (λ a. see_nothing (ltb-false w.at (length s) a))

-- ---- from the answer to the block that gives it

-- what a step says of the walk: where it goes on, the next block is reached; where it ends, why
Says : List ℕ → Walk → Moved → Type 0
Says s w (Continue next) = Reached s w → Reached s next
Says s w (Break (Ok _)) = NoneMet s w × (kind_at s w.at ≡ 3)
Says s w (Break (Err c)) = Condition s w c × ClearBefore s w (order c)

-- a step says what was seen
says : (s : List ℕ) (w : Walk) (m : Moved) → Seen s w m → Says s w m
unfolding Says
says s w _ (seen_refused c q clear) = (q, clear)
says s w _ (seen_head clean k) = λ r. past_head w r clean k
says s w _ (seen_voice clean k) = λ r. past_voice w r clean k
says s w _ (seen_end clean k) = (clean, k)

module _ (s : List ℕ) (short : length s ≤ longest) where
  -- the walk that is answered stands at a block that is reached
  kept : Reached s (walked_of s).walk × ((walked_of s).walk.at ≤ length s)
  unfolding Says
  kept =
      walks.walked_keeps s (λ w. Reached s w × (w.at ≤ length s))
      (λ w next k o. (onto w next k o, (walks.step_further s w next o).within)) (at_first, omega arith)
    where
      onto : (w next : Walk) → Reached s w × (w.at ≤ length s) → step_of s w ≡ Continue next → Reached s next
      onto w next k o = subst (Says s w) o (says s w (step_of s w) (seen s w k.1 short)) k.0

  -- so at the end
  said : Says s (walked_of s).walk (Break (walked_of s).ending)
  said =
      subst (Says s (walked_of s).walk) (walks.walked_stops s short)
      (says s (walked_of s).walk (step_of s (walked_of s).walk) (seen s (walked_of s).walk kept.1 short))

-- a refusal is given at the block where the walk stands
refused_given : (s : List ℕ) (c : Cause) → (walked_of s).ending ≡ Err c
    → (g : Given s c) × (g.walk ≡ (walked_of s).walk)
unfolding Says
refused_given s c e = go (dec_lt longest (length s))
  where
    go : Dec (longest < length s) → (g : Given s c) × (g.walk ≡ (walked_of s).walk)
    go (yes l) =
        let i = walks.too_long s l in
        let y : c ≡ TooLong = let z = sym e ∙ sym (ap (λ (w : Walked). w.ending) i) in cc in (
          subst (Given s) (sym y) (record {
            walk = at_start;
            reached = at_first;
            here = l;
            first = λ c m q. omega arith;
          }),
          ap (λ (w : Walked). w.walk) i,
        )
    go (no l) =
        let q = subst (λ (x : Ending). Says s (walked_of s).walk (Break x)) e (said s (omega arith)) in
        (record { walk = (walked_of s).walk; reached = (kept s (omega arith)).0; here = q.0; first = q.1 }, refl)

-- a sound end is an end block at which no condition is met
sound_accepted : (s : List ℕ) → (walked_of s).ending ≡ Ok tt → Accepted s
unfolding Says
sound_accepted s e =
    let short = walks.sound_short s e in
    let q = subst (λ (x : Ending). Says s (walked_of s).walk (Break x)) e (said s short) in
    record { walk = (walked_of s).walk; reached = (kept s short).0; clean = q.0; end = q.1 }

-- ---- from the block back to the answer

module _ (s : List ℕ) (short : length s ≤ longest) where
  -- a walk that reaches a block goes on from there to the answer of the whole
  record Onto (w : Walk) : Type 0 where
    rest : walk_from s w ≡ walk_from s at_start
    within : w.at ≤ length s

  -- past one more block
  onto_next : (w next : Walk) → Onto w → step_of s w ≡ Continue next → Onto next
  onto_next w next k o =
      record { rest = sym (walks.walk_on s w next o) ∙ k.rest; within = (walks.step_further s w next o).within }

  -- so of every block that is reached
  reached_onto : (w : Walk) → Reached s w → Onto w
  reached_onto _ at_first = record { rest = refl; within = omega arith }
  reached_onto _ (past_head w r clean k) =
      let before = reached_onto w r in
      go before (step_of s w) refl (seen s w before.within short)
    where
      go : Onto w → (m : Moved) → step_of s w ≡ m → Seen s w m → Onto (past_head_of w (heading_at s w.at))
      go before m o (seen_refused c q clear) = absurd (clean c q)
      go before m o (seen_head _ _) = onto_next w (past_head_of w (heading_at s w.at)) before o
      go before m o (seen_voice _ j) = absurd (omega arith)
      go before m o (seen_end _ j) = absurd (omega arith)
  reached_onto _ (past_voice w r clean k) =
      let before = reached_onto w r in
      go before (step_of s w) refl (seen s w before.within short)
    where
      go : Onto w → (m : Moved) → step_of s w ≡ m → Seen s w m → Onto (past_voice_of w (size_at s w.at))
      go before m o (seen_refused c q clear) = absurd (clean c q)
      go before m o (seen_head _ j) = absurd (omega arith)
      go before m o (seen_voice _ _) = onto_next w (past_voice_of w (size_at s w.at)) before o
      go before m o (seen_end _ j) = absurd (omega arith)

  -- and an end there is the end of the whole
  ends : (w : Walk) (ending : Ending) → Reached s w → step_of s w ≡ Break ending → (walked_of s).ending ≡ ending
  ends w ending r o =
      ap (λ (x : Walked). x.ending) (walks.walked_from s short ∙ sym (reached_onto w r).rest
      ∙ walks.walk_done s w ending o)

-- where a refusal is given, the walk ends with it
given_refused : (s : List ℕ) (c : Cause) → Given s c → (walked_of s).ending ≡ Err c
unfolding cause_by
given_refused s c g = go (dec_lt longest (length s))
  where
    at_block : length s ≤ longest → (m : Moved) → step_of s g.walk ≡ m → Seen s g.walk m
        → (walked_of s).ending ≡ Err c
    at_block short m o (seen_refused d q clear) =
        ends s short g.walk (Err d) g.reached o
        ∙ ap Err (first_alone s g.walk d c q clear g.here g.first)
    at_block short m o (seen_head clean k) = absurd (clean c g.here)
    at_block short m o (seen_voice clean k) = absurd (clean c g.here)
    at_block short m o (seen_end clean k) = absurd (clean c g.here)

    long : longest < length s → Dec (order c ≡ 0) → (walked_of s).ending ≡ Err c
    long l (yes z) =
        ap (λ (x : Walked). x.ending) (sym (walks.too_long s l))
        ∙ ap Err (sym (named s g.walk c g.here ∙ ap (cause_by s g.walk) z))
    long l (no z) = absurd (g.first TooLong (omega arith) l)

    go : Dec (longest < length s) → (walked_of s).ending ≡ Err c
    go (yes l) = long l (ℕ_discrete (order c) 0)
    go (no l) =
        at_block (omega arith) (step_of s g.walk) refl
        (seen s g.walk (reached_onto s (omega arith) g.walk g.reached).within (omega arith))

-- where an end block is accepted, the walk ends soundly
accepted_sound : (s : List ℕ) → Accepted s → (walked_of s).ending ≡ Ok tt
accepted_sound s a = go (dec_lt longest (length s))
  where
    at_block : length s ≤ longest → (m : Moved) → step_of s a.walk ≡ m → Seen s a.walk m
        → (walked_of s).ending ≡ Ok tt
    at_block short m o (seen_refused d q clear) = absurd (a.clean d q)
    at_block short m o (seen_head clean k) = absurd (let z = a.end in omega (arith, z))
    at_block short m o (seen_voice clean k) = absurd (let z = a.end in omega (arith, z))
    at_block short m o (seen_end clean k) = ends s short a.walk (Ok tt) a.reached o

    go : Dec (longest < length s) → (walked_of s).ending ≡ Ok tt
    go (yes l) = absurd (a.clean TooLong l)
    go (no l) =
        at_block (omega arith) (step_of s a.walk) refl
        (seen s a.walk (reached_onto s (omega arith) a.walk a.reached).within (omega arith))

-- ---- the rule

-- a recording is judged as it is walked through
pub judged_refused : (s : List ℕ) (c : Cause) → judged_of s ≡ Err c → (walked_of s).ending ≡ Err c
unfolding judged_of
judged_refused s c e = go (walked_of s).ending e
  where
    go : (x : Ending) → judged_by x (summary_of (walked_of s).walk (counts_of fresh_state (frames_of s))) ≡ Err c
        → x ≡ Err c
    go (Ok _) e = absurd (let z : ◌≡◌ {A = ℕ} 0 1 = cc in omega arith)
    go (Err d) e = let y : d ≡ c = cc in ap Err y

-- sound, with what was passed and the counts
pub judged_sound : (s : List ℕ) (x : Summary) → judged_of s ≡ Ok x
    → ((walked_of s).ending ≡ Ok tt) × (x ≡ summary_of (walked_of s).walk (counts_of fresh_state (frames_of s)))
unfolding judged_of
judged_sound s x e = go (walked_of s).ending e
  where
    go : (y : Ending) → judged_by y (summary_of (walked_of s).walk (counts_of fresh_state (frames_of s))) ≡ Ok x
        → (y ≡ Ok tt) × (x ≡ summary_of (walked_of s).walk (counts_of fresh_state (frames_of s)))
    go (Ok _) e = (refl, cc)
    go (Err d) e = absurd (let z : ◌≡◌ {A = ℕ} 0 1 = cc in omega arith)

-- and the other way
pub walked_judged : (s : List ℕ) (x : Ending) → (walked_of s).ending ≡ x
    → judged_of s ≡ judged_by x (summary_of (walked_of s).walk (counts_of fresh_state (frames_of s)))
unfolding judged_of
walked_judged s x e =
    ap (λ (y : Ending). judged_by y (summary_of (walked_of s).walk (counts_of fresh_state (frames_of s)))) e

pub refused_exactly : RefusedExactly
refused_exactly s c =
    (λ e. (refused_given s c (judged_refused s c e)).0, λ g. walked_judged s (Err c) (given_refused s c g))

-- what the block at a place tells, from the block at which its refusal is given
module _ (s : List ℕ) (p : ℕ) where
  cut_told : Given s (HeaderCut p) → (p < length s) × (length s < p + 6)
  cut_told g = let h = g.here in (omega (arith, h.0, h.1), omega (arith, h.0, h.2))

  past_told : Given s (PastEnd p) → (p + 6 ≤ length s) × (length s < p + 6 + size_at s p)
  past_told g = let h = g.here in rw h.0 (h.1, h.2)

  -- a payload that ran past the end would have been refused before
  size_told : (size : ℕ) → Given s (WrongSize p size)
      → (size ≡ size_at s p) × (p + 6 + size ≤ length s) × (right_size (kind_at s p) size ≡ false)
  size_told size g =
      let h = g.here in
      let at = g.walk.at in
      rw (h.0, h.1) (refl, go (dec_le (at + 6 + size_at s at) (length s)), h.3)
    where
      go : let at = g.walk.at in Dec (at + 6 + size_at s at ≤ length s) → at + 6 + size_at s at ≤ length s
      go (yes l) = l
      go (no l) = absurd (g.first (PastEnd g.walk.at) (omega arith) (refl, g.here.2, omega (arith, l)))

pub block_faults_told : BlockFaultsTold
block_faults_told s p size = (
  λ e. cut_told s p ((refused_exactly s (HeaderCut p)).0 e),
  λ e. past_told s p ((refused_exactly s (PastEnd p)).0 e),
  λ e. size_told s p size ((refused_exactly s (WrongSize p size)).0 e),
)

pub refused_keeps : RefusedKeeps
refused_keeps = refused_given

pub sound_exactly : SoundExactly
sound_exactly s =
    (λ e. sound_accepted s (judged_sound s e.0 e.1).0, λ a. (_, walked_judged s (Ok tt) (accepted_sound s a)))

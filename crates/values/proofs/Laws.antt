-- What the definitions of specs/ say, for whoever cites the contracts: the outcome, the values, and the state from
-- frame to frame.
-- Assumes nothing.
use mathlib.Core.Path.{◌≡◌, ◌∙◌, sym, refl, ap, subst}
use mathlib.Core.Bool.{false}
use mathlib.Core.List.{List, [], ◌∷◌}
use Prim.Native.Nat.{ℕ, zero, suc, ◌+◌, ◌*◌, ◌-◌, ◌^◌, ◌<◌, ◌≤◌}
use native.Mathlib.Omega.{arith}
use native.Mathlib.Nat.{add-sub_cancel}
use borrow.Author.Tests.{eq-eqb, ne_eqb, le-leb}
use lib.Dec.{eqb, eqb→eq}
use lib.IntN.{ℤ, pos}
use lib.ListN.{get_or, length}
use Rattle.std.specs.Prelude.{Result, Ok, Err}
use Rattle.laws.proofs.Cases.{of_four}
use Rattle.laws.proofs.Table.{at}
use Rattle.laws.proofs.Tabulate.{length_tabulate, get_d_tabulate}
use Rattle.record.specs.Fields.{widths, width_of, index_of, too_large_field}
use Rattle.record.specs.declared.Record.{Record}
use Rattle.record.proofs.Laws.{none_too_large}
use Rattle.gains.specs.Tables.{cg_table, pg_table}
use Rattle.gains.specs.Gains.{gain_of}
use Rattle.gains.proofs.Laws.{gain_value}
use Rattle.delays.specs.Codes.{four_meant, meant_by}
use Rattle.delays.specs.declared.CodeRefusal.{CodeRefusal}
use Rattle.delays.proofs.Laws.{Fit, fit_meant, meant_fit, meant_within}
use Rattle.lsp.specs.Table as hertz
use Rattle.lsp.specs.Table.{bits, lsp, column}
use Rattle.lsp.specs.Order.{mark_of}
use Rattle.lsp.specs.Average.{average_at, averages_of}
use Rattle.lsp.proofs.Laws.{all_fit, hertz_at, averages_at, averages_same}
use Rattle.std.specs.Prelude.{None, Some}
use Rattle.values.specs.declared.State.{State}
use Rattle.values.specs.declared.Values.{Values}
use Rattle.values.specs.declared.Outcome.{Outcome}
use Rattle.values.specs.declared.Outcome.TheVariants.{Heard, TooLarge, Expansion, Nothing}
use Rattle.values.specs.Outcome.{outcome_of, is_heard}
use Rattle.values.specs.Values.{pd_index, pg_index, cg_index, in_subframes, delays_in, delays_of, value_in, present_of}
use Rattle.values.specs.Values.{used_of}
use Rattle.values.specs.Values.{fresh_state, state_after, previous_of, heard_values, refused_values, nothing_heard}
use Rattle.values.specs.Values.{values_of}

-- ---- the outcome

-- a refusal is not heard, and one is not the other
pub too_large_not_heard : (field : ℕ) → TooLarge field ≡ Heard → ⊥
too_large_not_heard field e = let z : ◌≡◌ {A = ℕ} 0 1 = cc in omega arith

-- refusal 6 is not heard
pub expansion_not_heard : Expansion ≡ Heard → ⊥
expansion_not_heard e = let z : ◌≡◌ {A = ℕ} 0 1 = cc in omega arith

-- refusal 6 is not refusal 2
expansion_not_too_large : (field : ℕ) → Expansion ≡ TooLarge field → ⊥
expansion_not_too_large field e = let z : ◌≡◌ {A = ℕ} 0 1 = cc in omega arith

-- no record is not one that is heard
pub nothing_not_heard : Nothing ≡ Heard → ⊥
nothing_not_heard e = let z : ◌≡◌ {A = ℕ} 0 1 = cc in omega arith

-- refusal 2 tells one field
same_field : (f g : ℕ) → TooLarge f ≡ TooLarge g → f ≡ g
same_field f g e = cc

module _ (r : Record) where
  -- lowest refusal first: the lowest field whose index is too large
  pub outcome_too_large : 1 ≤ too_large_field r → outcome_of r ≡ TooLarge (too_large_field r)
  unfolding outcome_of
  outcome_too_large h = rw (ne_eqb (too_large_field r) 0 (λ z. omega arith))

  -- then SP is not 0
  pub outcome_set : too_large_field r ≡ 0 → (r.sp ≡ 0 → ⊥) → outcome_of r ≡ Expansion
  unfolding outcome_of
  outcome_set z w = rw (eq-eqb (too_large_field r) 0 z, ne_eqb r.sp 0 w)

  -- so SP 1 is refusal 6
  pub outcome_expansion : too_large_field r ≡ 0 → r.sp ≡ 1 → outcome_of r ≡ Expansion
  outcome_expansion z e = outcome_set z (λ o. omega arith)

  -- and a record with SP 0 is heard
  pub outcome_heard : too_large_field r ≡ 0 → r.sp ≡ 0 → outcome_of r ≡ Heard
  unfolding outcome_of
  outcome_heard z e = rw (eq-eqb (too_large_field r) 0 z, eq-eqb r.sp 0 e)

  -- there is no fourth: an SP that fits its field is 0 or 1
  pub by_outcome : (p : Outcome → Type 0) → (too_large_field r ≡ 0 → r.sp ≡ 0 → p Heard)
      → (1 ≤ too_large_field r → p (TooLarge (too_large_field r)))
      → (too_large_field r ≡ 0 → r.sp ≡ 1 → p Expansion) → p (outcome_of r)
  by_outcome p heard large expansion = field (too_large_field r) refl
    where
      bit : too_large_field r ≡ 0 → (sp : ℕ) → r.sp ≡ sp → p (outcome_of r)
      bit z zero e = subst p (sym (outcome_heard z e)) (heard z e)
      bit z (suc zero) e = subst p (sym (outcome_expansion z e)) (expansion z e)
      bit z (suc (suc k)) e =
          let h : r.sp < 2 = none_too_large r z 27 (omega arith) (omega arith) in
          absurd (omega arith)

      field : (f : ℕ) → too_large_field r ≡ f → p (outcome_of r)
      field zero z = bit z r.sp refl
      field (suc f) e =
          let h : 1 ≤ too_large_field r = omega arith in
          subst p (sym (outcome_too_large h)) (large h)

  -- so a record is heard only when no index is too large and SP is 0
  pub heard_fits : outcome_of r ≡ Heard → (too_large_field r ≡ 0) × (r.sp ≡ 0)
  heard_fits =
      by_outcome (λ o. o ≡ Heard → (too_large_field r ≡ 0) × (r.sp ≡ 0)) (λ z s e. (z, s))
      (λ h e. absurd (too_large_not_heard _ e))
      (λ z s e. absurd (expansion_not_heard e))

  -- some record was there
  pub never_nothing : outcome_of r ≡ Nothing → ⊥
  never_nothing =
      by_outcome (λ o. o ≡ Nothing → ⊥) (λ z s e. nothing_not_heard (sym e))
      (λ h e. let z : ◌≡◌ {A = ℕ} 0 1 = cc in omega arith)
      (λ z s e. let z : ◌≡◌ {A = ℕ} 0 1 = cc in omega arith)

  -- a field is told only when it is the lowest with an index too large
  pub too_large_is : (f : ℕ) → outcome_of r ≡ TooLarge f → (1 ≤ too_large_field r) × (f ≡ too_large_field r)
  too_large_is f =
      by_outcome (λ o. o ≡ TooLarge f → (1 ≤ too_large_field r) × (f ≡ too_large_field r))
      (λ z s e. absurd (too_large_not_heard f (sym e)))
      (λ h e. (h, sym (same_field _ _ e))) (λ z s e. absurd (expansion_not_too_large f e))

  -- and expansion is refused only when every index fits and SP is 1
  pub expansion_is : outcome_of r ≡ Expansion → (too_large_field r ≡ 0) × (r.sp ≡ 1)
  expansion_is =
      by_outcome (λ o. o ≡ Expansion → (too_large_field r ≡ 0) × (r.sp ≡ 1)) (λ z s e. absurd (expansion_not_heard (sym e)))
      (λ h e. absurd (expansion_not_too_large _ (sym e))) (λ z s e. (z, s))

-- ---- nothing heard

-- what is not heard has no values
not_heard : (o : Outcome) → (o ≡ Heard → ⊥) → is_heard o ≡ false
not_heard Heard w = absurd (w refl)
not_heard (TooLarge f) w = refl
not_heard Expansion w = refl
not_heard Nothing w = refl

-- a refused record has none
pub values_refused : (r : Record) (before : State) → (outcome_of r ≡ Heard → ⊥)
    → values_of r before ≡ refused_values (outcome_of r) (state_after (outcome_of r) r before)
unfolding values_of
values_refused r before refused = rw (not_heard (outcome_of r) refused)

-- where there is no record the state is as it came, and the outcome says so
pub nothing_state : (before : State) → (nothing_heard before).state ≡ before
unfolding nothing_heard refused_values
nothing_state before = refl

-- where there is no record the outcome says so
pub nothing_outcome : (before : State) → (nothing_heard before).outcome ≡ Nothing
unfolding nothing_heard refused_values
nothing_outcome before = refl

-- ---- a record that is heard

module _ (r : Record) (before : State) (heard : outcome_of r ≡ Heard) where
  -- its values are those of the definition
  pub values_heard : values_of r before ≡ heard_values r before
  unfolding values_of
  values_heard = rw heard

  -- the gains of its indices
  pub heard_cg : (values_of r before).cg ≡ in_subframes (λ n. value_in (gain_of cg_table (cg_index r n)))
  unfolding heard_values
  heard_cg = ap (λ (v : Values). v.cg) values_heard

  -- the PG of its indices
  pub heard_pg : (values_of r before).pg ≡ in_subframes (λ n. value_in (gain_of pg_table (pg_index r n)))
  unfolding heard_values
  heard_pg = ap (λ (v : Values). v.pg) values_heard

  -- the delays, whatever the state
  pub heard_delays : (values_of r before).delays ≡ delays_of r
  unfolding heard_values
  heard_delays = ap (λ (v : Values). v.delays) values_heard

  -- the mark of the present LSPs, whatever the state
  pub heard_mark : (values_of r before).mark ≡ mark_of (present_of r)
  unfolding heard_values
  heard_mark = ap (λ (v : Values). v.mark) values_heard

  -- the averages of the previous LSPs and those used
  pub heard_averages : (values_of r before).averages ≡ averages_of (previous_of before (used_of r before)) (used_of r before)
  unfolding heard_values
  heard_averages = ap (λ (v : Values). v.averages) values_heard

-- ---- the averages

-- a fresh state has not begun
pub fresh_not_begun : fresh_state.hz ≡ None
unfolding fresh_state
fresh_not_begun = refl

-- without a previous frame this frame's values stand for the previous ones
pub previous_none : (before : State) (used : List ℕ) → before.hz ≡ None → previous_of before used ≡ used
previous_none before used e = rw e

-- with one, its own do, whatever they are
pub previous_kept : (before : State) (used : List ℕ) {hz : List ℕ} → before.hz ≡ Some hz → previous_of before used ≡ hz
previous_kept before used e = rw e

module _ (r : Record) (before : State) (heard : outcome_of r ≡ Heard) (n j : ℕ) (a : 1 ≤ n) (b : n ≤ 4) (c : 1 ≤ j)
    (d : j ≤ 10) where
  -- what stands for LSP j in subframe n
  abbrev averaged : ℕ
  averaged = get_or (values_of r before).averages (10 * (n - 1) + (j - 1)) 0

  -- it is an average of what stands for the previous values
  averages_with : (previous : List ℕ) → previous_of before (used_of r before) ≡ previous
      → averaged ≡ get_or (averages_of previous (used_of r before)) (10 * (n - 1) + (j - 1)) 0
  averages_with previous e =
      ap (λ (l : List ℕ). get_or l (10 * (n - 1) + (j - 1)) 0)
      (heard_averages r before heard ∙ ap (λ (l : List ℕ). averages_of l (used_of r before)) e)

  -- before the first frame it is eight times the value used
  pub first_averages : before.hz ≡ None → averaged ≡ 8 * lsp (used_of r before) j
  first_averages e =
      averages_with (used_of r before) (previous_none before (used_of r before) e)
      ∙ averages_same (used_of r before) n j a b c d

  -- after a frame the sum of its value and the one used
  pub later_averages : {hz : List ℕ} → before.hz ≡ Some hz → averaged ≡ average_at hz (used_of r before) n j
  later_averages {hz} e =
      averages_with hz (previous_kept before (used_of r before) e) ∙ averages_at hz (used_of r before) n j a b c d

-- ---- what a record that is not refused for an index has: LSPs, gains and delays of its own indices

-- the bits of the ten LSPs are the widths of their fields
pub bits_are_widths : (k : ℕ) → k < 10 → get_or bits k 0 ≡ get_or widths k 0
bits_are_widths k h = eqb→eq _ _ (at 0 (λ i w. eqb w (get_or widths i 0)) bits tt k h)

module _ (r : Record) (fits : too_large_field r ≡ 0) where
  -- each of its LSP indices fits its column
  pub lsp_fits : (j : ℕ) → 1 ≤ j → j ≤ 10 → lsp r.lsp j < 2 ^ lsp bits j
  lsp_fits j a b =
      let h : index_of r j < 2 ^ width_of j = none_too_large r fits j a (omega arith) in
      rw (bits_are_widths (j - 1) (omega arith)) (rw (le-leb j 10 b) at h)

  -- so none of its LSPs is refused
  pub lsps_fit : hertz.too_large_field r.lsp ≡ 0
  lsps_fit = all_fit r.lsp lsp_fits

  -- so its LSPs in Hz are the entries there
  pub present_at : (j : ℕ) → 1 ≤ j → j ≤ 10 → lsp (present_of r) j ≡ get_or (column j) (lsp r.lsp j) 0
  present_at j a b = hertz_at r.lsp lsps_fit j a b

  -- each gain's index has an entry in its table
  pub cg_index_small : (n : ℕ) → 1 ≤ n → n ≤ 4 → cg_index r n < 32
  cg_index_small n a b =
      of_four (λ m. cg_index r m < 32) n a b (none_too_large r fits 14 (omega arith) (omega arith))
      (none_too_large r fits 18 (omega arith) (omega arith)) (none_too_large r fits 22 (omega arith) (omega arith))
      (none_too_large r fits 26 (omega arith) (omega arith))

  -- each PG index has an entry
  pub pg_index_small : (n : ℕ) → 1 ≤ n → n ≤ 4 → pg_index r n < 32
  pg_index_small n a b =
      of_four (λ m. pg_index r m < 32) n a b (none_too_large r fits 12 (omega arith) (omega arith))
      (none_too_large r fits 16 (omega arith) (omega arith)) (none_too_large r fits 20 (omega arith) (omega arith))
      (none_too_large r fits 24 (omega arith) (omega arith))

  -- its four codes fit their bits
  pub pd_fit : Fit (pd_index r 1) (pd_index r 2) (pd_index r 3) (pd_index r 4)
  pd_fit =
      record {
        first = none_too_large r fits 11 (omega arith) (omega arith);
        second = none_too_large r fits 15 (omega arith) (omega arith);
        third = none_too_large r fits 19 (omega arith) (omega arith);
        fourth = none_too_large r fits 23 (omega arith) (omega arith);
      }

  -- so they mean its delays
  pub delays_meant : meant_by (in_subframes (pd_index r))
      ≡ Ok (get_or (delays_of r) 0 0 ∷ get_or (delays_of r) 1 0 ∷ get_or (delays_of r) 2 0 ∷ get_or (delays_of r) 3 0 ∷ [])
  unfolding meant_by delays_of
  delays_meant = let e = fit_meant (pd_index r 1) (pd_index r 2) (pd_index r 3) (pd_index r 4) pd_fit in e ∙ rw e refl

-- the gain of each subframe, where four gains are those of four indices that fit
given_in : (table : List ℤ) (index : ℕ → ℕ) {gains : List ℤ}
    → gains ≡ in_subframes (λ n. value_in (gain_of table (index n)))
    → (n : ℕ) → 1 ≤ n → n ≤ 4 → index n < 32 → gain_of table (index n) ≡ Ok (get_or gains (n - 1) (pos 0))
given_in table index {gains} e n a b h =
    let g = gain_value table (index n) (omega arith) in
    g ∙ ap Ok (ap value_in (sym g) ∙ each ∙ sym (ap (λ (l : List ℤ). get_or l (n - 1) (pos 0)) e))
  where
    each : value_in (gain_of table (index n)) ≡ get_or (in_subframes (λ m. value_in (gain_of table (index m)))) (n - 1) (pos 0)
    each =
        of_four (λ k. value_in (gain_of table (index k)) ≡ get_or (in_subframes (λ m. value_in (gain_of table (index m))))
        (k - 1) (pos 0)) n a b
        refl refl refl refl

module _ (r : Record) (before : State) (heard : outcome_of r ≡ Heard) (n : ℕ) (a : 1 ≤ n) (b : n ≤ 4) where
  -- the gains of a record that is heard are those of its indices, none too large
  pub cg_given : gain_of cg_table (cg_index r n) ≡ Ok (get_or (values_of r before).cg (n - 1) (pos 0))
  cg_given =
      given_in cg_table (cg_index r) (heard_cg r before heard) n a b (cg_index_small r (heard_fits r heard).0 n a b)

  -- so are the PG
  pub pg_given : gain_of pg_table (pg_index r n) ≡ Ok (get_or (values_of r before).pg (n - 1) (pos 0))
  pg_given =
      given_in pg_table (pg_index r) (heard_pg r before heard) n a b (pg_index_small r (heard_fits r heard).0 n a b)

-- ---- heard or refused

module _ (r : Record) (before : State) where
  -- what holds of both answers holds of any
  pub by_values : (p : Values → Type 0) → (outcome_of r ≡ Heard → p (heard_values r before))
      → ((outcome_of r ≡ Heard → ⊥) → p (refused_values (outcome_of r) (state_after (outcome_of r) r before)))
      → p (values_of r before)
  by_values p h w = go (outcome_of r) refl
    where
      refused : (outcome_of r ≡ Heard → ⊥) → p (values_of r before)
      refused n = subst p (sym (values_refused r before n)) (w n)

      go : (o : Outcome) → outcome_of r ≡ o → p (values_of r before)
      go Heard e = subst p (sym (values_heard r before e)) (h e)
      go (TooLarge f) e = refused (λ q. too_large_not_heard f (sym e ∙ q))
      go Expansion e = refused (λ q. expansion_not_heard (sym e ∙ q))
      go Nothing e = refused (λ q. nothing_not_heard (sym e ∙ q))

  -- the answer tells the outcome
  pub values_outcome : (values_of r before).outcome ≡ outcome_of r
  unfolding heard_values refused_values
  values_outcome = by_values (λ v. v.outcome ≡ outcome_of r) (λ e. sym e) (λ w. refl)

  -- and has the state after
  pub values_state : (values_of r before).state ≡ state_after (outcome_of r) r before
  unfolding heard_values refused_values
  values_state =
      by_values (λ v. v.state ≡ state_after (outcome_of r) r before) (λ e. ap (λ (o : Outcome). state_after o r before)
      (sym e)) (λ w. refl)

  -- by the outcome
  pub state_by : {o : Outcome} → outcome_of r ≡ o → (values_of r before).state ≡ state_after o r before
  state_by e = values_state ∙ ap (λ (o : Outcome). state_after o r before) e

  -- after a record whose indices fit the last SY is its own, heard or not
  pub sync_kept : too_large_field r ≡ 0 → (values_of r before).state.last ≡ Some r.sy
  sync_kept fits =
      ap (λ (t : State). t.last) values_state
      ∙ by_outcome r (λ o. (state_after o r before).last ≡ Some r.sy) (λ z s. refl) (λ h. absurd (omega arith))
      (λ z s. refl)

  -- four delays are answered in any case, none over 147 samples
  pub delays_four : length (values_of r before).delays ≡ 4
  unfolding heard_values refused_values delays_of meant_by
  delays_four =
      by_values (λ v. length v.delays ≡ 4) (λ e. four_in (meant_by (in_subframes (pd_index r))) refl)
      (λ w. length_tabulate (λ k. 0) 4)
    where
      four_in : (m : Result (List ℕ) CodeRefusal)
          → four_meant (pd_index r 1) (pd_index r 2) (pd_index r 3) (pd_index r 4) ≡ m → length (delays_in m) ≡ 4
      four_in (Ok delays) e = ap length (meant_fit (pd_index r 1) (pd_index r 2) (pd_index r 3) (pd_index r 4) e).1
      four_in (Err n) e = refl

  -- none of the four is over 147 samples
  pub delays_most : (k : ℕ) → k < 4 → get_or (values_of r before).delays k 0 ≤ 1764
  unfolding heard_values refused_values delays_of meant_by
  delays_most k h =
      by_values (λ v. get_or v.delays k 0 ≤ 1764) (λ e. most_in (meant_by (in_subframes (pd_index r))) refl)
      (λ w. rw (get_d_tabulate {A = ℕ} (λ i. 0) 0 4 k h) (omega arith))
    where
      four : (w x y z : ℕ) → w ≤ 1764 → x ≤ 1764 → y ≤ 1764 → z ≤ 1764 → get_or (w ∷ x ∷ y ∷ z ∷ []) (k + 1 - 1) 0 ≤ 1764
      four w x y z = of_four (λ n. get_or (w ∷ x ∷ y ∷ z ∷ []) (n - 1) 0 ≤ 1764) (k + 1) (omega arith) (omega arith)

      most_in : (m : Result (List ℕ) CodeRefusal) → four_meant (pd_index r 1) (pd_index r 2) (pd_index r 3) (pd_index r 4) ≡ m
          → get_or (delays_in m) k 0 ≤ 1764
      most_in (Ok delays) e =
          let m = meant_fit (pd_index r 1) (pd_index r 2) (pd_index r 3) (pd_index r 4) e in
          let p = meant_within (pd_index r 1) (pd_index r 2) (pd_index r 3) (pd_index r 4) _ _ _ _
          (fit_meant (pd_index r 1) (pd_index r 2) (pd_index r 3) (pd_index r 4) m.0) in
          subst (λ (l : List ℕ). get_or l k 0 ≤ 1764) (sym m.1)
          (rw (sym (add-sub_cancel k 1)) (four _ _ _ _ p.0.1 p.1.1 p.2.1 p.3.1))
      most_in (Err n) e =
          rw (sym (add-sub_cancel k 1)) (four 0 0 0 0 (omega arith) (omega arith) (omega arith) (omega arith))

-- The values of a record, given the state before it (document 01, "LSPs (3.7)", last paragraph; document 02, K4).
use Rattle.std.specs.Prelude.{unwrap_or, List, [], ◌∷◌, ℕ, ◌+◌, ◌-◌, ◌*◌, ℤ, pos, get_or, None, Some, Result, Ok, Err}
use Rattle.laws.specs.Tabulate.{tabulate}
use Rattle.laws.specs.Unless.{unless}
use Rattle.record.specs.Fields.{index_of}
use Rattle.record.specs.declared.Record.{Record}
use Rattle.gains.specs.Tables.{cg_table, pg_table}
use Rattle.gains.specs.Gains.{gain_of}
use Rattle.gains.specs.declared.Refusal as gains
use Rattle.delays.specs.Codes.{meant_by}
use Rattle.delays.specs.declared.CodeRefusal.{CodeRefusal}
use Rattle.lsp.specs.Table.{hertz_of, hz_in}
use Rattle.lsp.specs.Order.{mark_of}
use Rattle.lsp.specs.Average.{averages_of}
use Rattle.values.specs.declared.State.{State}
use Rattle.values.specs.declared.Values.{Values}
use Rattle.values.specs.declared.Outcome.{Outcome}
use Rattle.values.specs.declared.Outcome.TheVariants.{Heard, TooLarge, Expansion, Nothing}
use Rattle.values.specs.Outcome.{outcome_of, is_heard}

-- the indices of subframe n: PD, PG and CG are the first, second and fourth of its four fields; the third, CI, has no
-- value here
abbrev pub pd_index : Record → ℕ → ℕ
pd_index r n = index_of r (10 + 4 * (n - 1) + 1)

-- the PG index of subframe n
abbrev pub pg_index : Record → ℕ → ℕ
pg_index r n = index_of r (10 + 4 * (n - 1) + 2)

-- the CG index of subframe n
abbrev pub cg_index : Record → ℕ → ℕ
cg_index r n = index_of r (10 + 4 * (n - 1) + 4)

-- one for each subframe
abbrev pub in_subframes : {A : Type 0} → (ℕ → A) → List A
in_subframes f = f 1 ∷ f 2 ∷ f 3 ∷ f 4 ∷ []

-- the index at one place of each subframe's four fields, the first at place 0
abbrev pub indices_at : Record → ℕ → List ℕ
indices_at r place = in_subframes (λ n. index_of r (10 + 4 * (n - 1) + 1 + place))

-- the gains of four indices in a table; an index too large, which no record that is heard has, counts 0
abbrev pub value_in : Result ℤ gains.Refusal → ℤ
value_in (Ok v) = v
value_in (Err e) = pos 0

-- four gains, one for each subframe
abbrev pub gains_of : List ℤ → List ℕ → List ℤ
gains_of table indices = in_subframes (λ n. value_in (gain_of table (get_or indices (n - 1) 0)))

-- the four delays in twelfths; a code too large, which no record that is heard has, makes them 0
abbrev pub delays_in : Result (List ℕ) CodeRefusal → List ℕ
delays_in (Ok delays) = delays
delays_in (Err e) = 0 ∷ 0 ∷ 0 ∷ 0 ∷ []

-- the delays that the four PD of a record mean
unfoldable pub delays_of : Record → List ℕ
delays_of r = delays_in (meant_by (in_subframes (pd_index r)))

-- the present frame's ten LSPs in Hz
abbrev pub present_of : Record → List ℕ
present_of r = hz_in (hertz_of r.lsp)

-- those that are used: the present ones, in order or not
abbrev pub used_of : Record → State → List ℕ
used_of r before = present_of r

-- before the first frame there is no previous one; "a fresh state says there was none" of its SY (K4)
unfoldable pub fresh_state : State
fresh_state = record { hz = None; last = None }

-- after a frame that is heard there is one: the LSPs that were used are kept, and "the running state keeps the last SY"
abbrev pub heard_state : List ℕ → ℕ → State
heard_state used sy = record { hz = Some used; last = Some sy }

-- "A frame refused with 6 also updates the last SY, and that only" (K4)
abbrev pub sync_state : State → ℕ → State
sync_state before sy = record { hz = before.hz; last = Some sy }

-- the state after a record, by its outcome: but for 6, "a refused record leaves the state as it came" (01, amended by
-- K4)
abbrev pub state_after : Outcome → Record → State → State
state_after Heard r before = heard_state (used_of r before) r.sy
state_after (TooLarge field) r before = before
state_after Expansion r before = sync_state before r.sy
state_after Nothing r before = before

-- the previous frame's LSPs; a fresh state takes this frame's own
abbrev pub previous_of : State → List ℕ → List ℕ
previous_of before used = unwrap_or before.hz used

-- the values of a record that is not refused; LSPs that fall are marked
unfoldable pub heard_values : Record → State → Values
heard_values r before =
    record {
      outcome = Heard;
      cg = gains_of cg_table (in_subframes (cg_index r));
      pg = gains_of pg_table (in_subframes (pg_index r));
      delays = delays_of r;
      averages = averages_of (previous_of before (used_of r before)) (used_of r before);
      mark = mark_of (present_of r);
      state = state_after Heard r before;
    }

-- a refused record has no values
unfoldable pub refused_values : Outcome → State → Values
refused_values outcome after =
    record {
      outcome = outcome;
      cg = tabulate (λ k. pos 0) 4;
      pg = tabulate (λ k. pos 0) 4;
      delays = tabulate (λ k. 0) 4;
      averages = tabulate (λ k. 0) 40;
      mark = 0;
      state = after;
    }

-- nor has no record at all, and the state is as it came
unfoldable pub nothing_heard : State → Values
nothing_heard before = refused_values Nothing before

-- any record after any state
unfoldable pub values_of : Record → State → Values
values_of r before =
    unless (is_heard (outcome_of r)) (refused_values (outcome_of r) (state_after (outcome_of r) r before))
    (heard_values r before)

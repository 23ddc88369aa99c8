-- The returns of the functions of `heard` and `decoder`: what was computed step by step is what the definitions say.
-- Assumes nothing.
use mathlib.Core.Path.{◌≡◌, ◌∙◌, sym, ap}
use mathlib.Core.List.{List, [], ◌∷◌}
use Prim.Native.Nat.{ℕ, ◌+◌, ◌<◌}
use native.Mathlib.Omega.{arith}
use lib.IntN.{ℤ}
use lib.ListN.{get_or}
use Rattle.record.specs.Fields.{index_of, too_large_field}
use Rattle.record.specs.declared.Record.{Record}
use Rattle.record.proofs.Laws.{index_subframe}
use Rattle.gains.specs.Tables.{cg_table, pg_table}
use Rattle.lsp.specs.Table.{hertz_of, hz_in}
use Rattle.lsp.specs.Order.{mark_of}
use Rattle.lsp.specs.Average.{averages_of}
use Rattle.values.specs.declared.State.{State}
use Rattle.values.specs.declared.Values.{Values}
use Rattle.values.specs.declared.Outcome.{Outcome}
use Rattle.values.specs.declared.Outcome.TheVariants.{Heard, TooLarge, Expansion}
use Rattle.values.specs.Outcome.{outcome_of}
use Rattle.values.specs.Values.{in_subframes, indices_at, cg_index, pg_index, gains_of, delays_of, previous_of}
use Rattle.values.specs.Values.{heard_state, sync_state, state_after}
use Rattle.values.specs.Values.{heard_values, refused_values, values_of}
use Rattle.values.proofs.Laws.{outcome_too_large, outcome_set, outcome_heard, too_large_not_heard}
use Rattle.values.proofs.Laws.{expansion_not_heard}
use Rattle.values.proofs.Laws.{values_refused, values_heard}

-- the index at one place of each subframe's four, read from the sixteen
pub placed : (r : Record) (place : ℕ) → place < 4
    → get_or r.subframes place 0 ∷ get_or r.subframes (4 + place) 0 ∷ get_or r.subframes (8 + place) 0
    ∷ get_or r.subframes (12 + place) 0 ∷ [] ≡ indices_at r place
placed r place h =
    λ i. at place 11 (omega arith) i ∷ at (4 + place) 15 (omega arith) i ∷ at (8 + place) 19 (omega arith) i
    ∷ at (12 + place) 23 (omega arith) i ∷ []
  where
    -- field f + place holds the index k of the sixteen
    at : (k f : ℕ) → (f + place ≡ k + 11) × (k < 16) → get_or r.subframes k 0 ≡ index_of r (f + place)
    at k f (e, l) = sym (ap (index_of r) e ∙ index_subframe r k l)

-- four numbers, one after the other
pub four : {a b c d a' b' c' d' : ℤ} → a ≡ a' → b ≡ b' → c ≡ c' → d ≡ d'
    → ◌≡◌ {A = List ℤ} (a ∷ b ∷ c ∷ d ∷ []) (a' ∷ b' ∷ c' ∷ d' ∷ [])
four p q r s = λ i. p i ∷ q i ∷ r i ∷ s i ∷ []

-- the values of a record that is heard, put together from each step's answer
module _ (r : Record) (before : State) where
  -- the record of the steps' answers is the definition's
  pub heard_whole : {state : State} {cg pg : List ℤ} {delays averages previous hz : List ℕ} {mark : ℕ}
      → cg ≡ gains_of cg_table (in_subframes (cg_index r)) → pg ≡ gains_of pg_table (in_subframes (pg_index r))
      → delays ≡ delays_of r
      → hz ≡ hz_in (hertz_of r.lsp) → previous ≡ previous_of before hz → averages ≡ averages_of previous hz
      → mark ≡ mark_of hz → state ≡ heard_state hz r.sy
      → ◌≡◌ {A = Values}
      (record { outcome = Heard; cg = cg; pg = pg; delays = delays; averages = averages; mark = mark; state = state })
      (heard_values r before)
  unfolding heard_values
  heard_whole {hz = hz} cg-is pg-is delays-are hz-is previous-is averages-are mark-is state-is =
      λ i. record {
        outcome = Heard;
        cg = cg-is i;
        pg = pg-is i;
        delays = delays-are i;
        averages =
            (averages-are ∙ ap (λ (l : List ℕ). averages_of l hz) previous-is
            ∙ ap (λ (l : List ℕ). averages_of (previous_of before l) l) hz-is) i;
        mark = (mark-is ∙ ap mark_of hz-is) i;
        state = (state-is ∙ ap (λ (l : List ℕ). heard_state l r.sy) hz-is) i;
      }

  -- what each refusal gets
  pub field_told : {field : ℕ} {v : Values} → field ≡ too_large_field r → (field ≡ 0 → ⊥)
      → v ≡ refused_values (TooLarge field) before
      → v ≡ values_of r before
  field_told {field} is w e =
      let o : outcome_of r ≡ TooLarge (too_large_field r) = outcome_too_large r (let n = w in omega arith) in
      e ∙ ap (λ (f : ℕ). refused_values (TooLarge f) before) is
      ∙ ap (λ (p : Outcome). refused_values p (state_after p r before)) (sym o)
      ∙ sym (values_refused r before (λ h. too_large_not_heard _ (sym o ∙ h)))

  -- a record whose SP is set gets refusal 6, and leaves its SY
  pub expansion_told : {field : ℕ} {after : State} {v : Values} → field ≡ too_large_field r → field ≡ 0 → (r.sp ≡ 0 → ⊥)
      → after ≡ sync_state before r.sy → v ≡ refused_values Expansion after → v ≡ values_of r before
  expansion_told is z w left e =
      let o : outcome_of r ≡ Expansion = outcome_set r (sym is ∙ z) w in
      e
      ∙ ap (refused_values Expansion) left
      ∙ ap (λ (p : Outcome). refused_values p (state_after p r before)) (sym o)
      ∙ sym (values_refused r before (λ h. expansion_not_heard (sym o ∙ h)))

  -- and what is heard
  pub heard_told : {field : ℕ} {v : Values} → field ≡ too_large_field r → field ≡ 0 → r.sp ≡ 0
      → v ≡ heard_values r before → v ≡ values_of r before
  heard_told is z w e = e ∙ sym (values_heard r before (outcome_heard r (sym is ∙ z) w))

-- The returns of `oatlantern_hear_record`: what was computed is what the definitions say, the result and all that is
-- lent.
-- Assumes nothing.
use mathlib.Core.Path.{◌≡◌, ◌∙◌, refl, ap}
use borrow.Author.Tests.{eq-eqb, ne_eqb}
use Rattle.std.specs.Prelude.{None, Some}
use mathlib.Core.List.{List}
use Prim.Native.Nat.{ℕ, ◌≤◌}
use native.Mathlib.Omega.{arith}
use lib.IntN.{ℤ, pos}
use lib.ListN.{length}
use Rattle.laws.proofs.Chosen.{chosen}
use Rattle.verdicts.specs.Verdicts.{refused}
use Rattle.lsp.proofs.Laws.{mark_most}
use Rattle.record.specs.declared.Record.{Record}
use Rattle.pairs.specs.Pairs.{taken_of}
use Rattle.pairs.proofs.Whole.{was_taken, was_wrong}
use Rattle.values.specs.Outcome.{is_heard, outcome_of, refusal_of}
use Rattle.values.specs.Values.{values_of, heard_values, refused_values}
use Rattle.values.specs.declared.Outcome.{Outcome}
use Rattle.values.specs.declared.Outcome.TheVariants.{Heard, TooLarge, Expansion, Nothing}
use Rattle.values.specs.declared.State.{State}
use Rattle.values.specs.declared.Values.{Values}
use Rattle.hearer.specs.Hearing.{state_in, sync_of, hz_of, values_in, refusal_in, hear_result, if_heard, if_kept}

-- a record is refused with 2 or with 6, or not
none_left : (o : Outcome) → (refusal_of o ≡ 2 → ⊥) → (refusal_of o ≡ 6 → ⊥) → refusal_of o ≡ 0
none_left Heard f g = refl
none_left (TooLarge field) f g = absurd (f refl)
none_left Expansion f g = absurd (g refl)
none_left Nothing f g = refl

-- no mark is over 9
pub mark_small : (r : Record) (before : State) → (values_of r before).mark ≤ 9
unfolding values_of heard_values refused_values
mark_small r before =
    chosen (λ (v : Values). v.mark ≤ 9) (is_heard (outcome_of r)) (λ t. mark_most _) (λ t. omega arith)

module _ (bytes sync hz : List ℕ) (cg pg : List ℤ) (delays averages : List ℕ) where
  -- the result, and what the lent numbers hold then
  abbrev Left : ℤ → List ℕ → List ℕ → List ℤ → List ℤ → List ℕ → List ℕ → Type 0
  Left r sync' hz' cg' pg' delays' averages' =
      (r ≡ hear_result (refusal_in bytes sync hz) (values_in bytes sync hz))
      × ((sync' ≡ if_kept (refusal_in bytes sync hz) (sync_of (values_in bytes sync hz).state) sync)
      × ((hz' ≡ if_kept (refusal_in bytes sync hz) (hz_of (values_in bytes sync hz).state hz) hz)
      × ((cg' ≡ if_heard (refusal_in bytes sync hz) (values_in bytes sync hz).cg cg)
      × ((pg' ≡ if_heard (refusal_in bytes sync hz) (values_in bytes sync hz).pg pg)
      × ((delays' ≡ if_heard (refusal_in bytes sync hz) (values_in bytes sync hz).delays delays)
      × (averages' ≡ if_heard (refusal_in bytes sync hz) (values_in bytes sync hz).averages averages))))))

  -- the bytes are no record
  pub no_record : None ≡ taken_of bytes → Left (refused 1) sync hz cg pg delays averages
  unfolding refusal_in
  no_record is = rw (ne_eqb (length bytes) 56 (was_wrong bytes is)) (refl, (refl, (refl, (refl, (refl, (refl, refl))))))

  module _ {given : Record} (is : Some given ≡ taken_of bytes) {s : State} (stated : s ≡ state_in sync hz) {v : Values}
      (said : v ≡ values_of given s) {n : ℕ} (told : n ≡ refusal_of v.outcome) where
    -- the values, and the number of the refusal
    values_are : v ≡ values_in bytes sync hz
    unfolding values_in
    values_are =
        said ∙ ap (values_of given) stated ∙ ap (λ (x : Record). values_of x (state_in sync hz)) (was_taken bytes is).1

    number_is : n ≡ refusal_in bytes sync hz
    unfolding refusal_in
    number_is =
        rw (eq-eqb (length bytes) 56 (was_taken bytes is).0)
        (told ∙ ap (λ (x : Values). refusal_of x.outcome) values_are)

    -- an index is too large
    pub too_large : n ≡ 2 → Left (refused 2) sync hz cg pg delays averages
    too_large e = rw (← number_is, e) (refl, (refl, (refl, (refl, (refl, (refl, refl))))))

    -- SP is 1: the state is kept
    pub expanded : {sync' hz' : List ℕ} → n ≡ 6 → sync' ≡ sync_of v.state → hz' ≡ hz_of v.state hz
        → Left (refused 6) sync' hz' cg pg delays averages
    expanded e i j = rw (← number_is, e, ← values_are) (refl, (i, (j, (refl, (refl, (refl, refl))))))

    -- the record is heard
    pub was_heard : {r : ℤ} {sync' hz' delays' averages' : List ℕ} {cg' pg' : List ℤ}
        → (n ≡ 2 → ⊥) → (n ≡ 6 → ⊥) → sync' ≡ sync_of v.state → hz' ≡ hz_of v.state hz → r ≡ pos v.mark
        → cg' ≡ v.cg → pg' ≡ v.pg → delays' ≡ v.delays → averages' ≡ v.averages
        → Left r sync' hz' cg' pg' delays' averages'
    was_heard f g i j r k l m o =
        let e : n ≡ 0 = told ∙ none_left v.outcome (λ x. f (told ∙ x)) (λ x. g (told ∙ x)) in
        rw (← number_is, e, ← values_are) (r, (i, (j, (k, (l, (m, o))))))

-- `hearer::oatlantern_hear_record` meets its contract: no record, an index too large, SP 1, and a record that is heard.
use mathlib.Core.Path.{◌∙◌, sym}
use native.Mathlib.Omega.{arith}
use borrow.Author.Rules.{sfits_of}
use mir.Facts.{to_z-of_z}
use mir.Syntax.{w32}
use Rattle.hearer.proofs.Left.{mark_small, no_record, too_large, expanded, was_heard}
use Rattle.laws.proofs.Clauses.{clauses}
use Rattle.hearer.proofs.oatlantern_hear_record.Goals as goal

pub returns-in_default : goal.returns-in_default
returns-in_default c = clauses (λ value. clauses (λ sync_after. clauses (λ hz_after. clauses (λ cg_after. clauses (λ pg_after. clauses (λ delays_after averages_after. record { value = value; sync_after = sync_after; hz_after = hz_after; cg_after = cg_after; pg_after = pg_after; delays_after = delays_after; averages_after = averages_after })))))) (no_record _ _ _ _ _ _ _ (sym c.in_default.is ∙ c.take.ensures))

pub returns-then-number-eq2 : goal.returns-then-number-eq2
returns-then-number-eq2 c = clauses (λ value. clauses (λ sync_after. clauses (λ hz_after. clauses (λ cg_after. clauses (λ pg_after. clauses (λ delays_after averages_after. record { value = value; sync_after = sync_after; hz_after = hz_after; cg_after = cg_after; pg_after = pg_after; delays_after = delays_after; averages_after = averages_after })))))) (too_large _ _ _ _ _ _ _ c.in-Some.ensures c.state_in-before.ensures
    c.values_of-values.ensures c.refusal_number-number.ensures (omega arith))

pub returns-then-number-eq6 : goal.returns-then-number-eq6
returns-then-number-eq6 c = clauses (λ value. clauses (λ sync_after. clauses (λ hz_after. clauses (λ cg_after. clauses (λ pg_after. clauses (λ delays_after averages_after. record { value = value; sync_after = sync_after; hz_after = hz_after; cg_after = cg_after; pg_after = pg_after; delays_after = delays_after; averages_after = averages_after })))))) (expanded _ _ _ _ _ _ _ c.in-Some.ensures c.state_in-before.ensures
    c.values_of-values.ensures c.refusal_number-number.ensures (omega arith) c.keep.ensures.sync_after c.keep.ensures.hz_after)

pub lay-requires : goal.lay-requires
lay-requires c =
    rw c.values_of-values.ensures (mark_small _ _)

pub returns : goal.returns
returns c =
    let l = c.lay.ensures in
    clauses (λ value. clauses (λ sync_after. clauses (λ hz_after. clauses (λ cg_after. clauses (λ pg_after. clauses (λ delays_after averages_after. record { value = value; sync_after = sync_after; hz_after = hz_after; cg_after = cg_after; pg_after = pg_after; delays_after = delays_after; averages_after = averages_after })))))) (was_heard _ _ _ _ _ _ _ c.in-Some.ensures c.state_in-before.ensures
    c.values_of-values.ensures c.refusal_number-number.ensures c.if-number-eq2.false c.if-number-eq6.false
    c.keep.ensures.sync_after c.keep.ensures.hz_after
    (to_z-of_z {w = w32} (sfits_of c.lay.type_inv) ∙ l.value) l.cg_after l.pg_after l.delays_after l.averages_after)

use native.Mathlib.Omega.{arith}
use Rattle.record.proofs.Fields.{shift_small, found_here, none_found_here}
use Rattle.record.proofs.Fields.{as_record}
use Rattle.record.proofs.Laws.{names_field, names_none}
use Rattle.record.proofs.Record.too_large.Goals as goal

pub overflow_shr-indices : goal.overflow_shr-indices
overflow_shr-indices c = shift_small c.loop-i.invariant (omega arith)

pub returns-then-indices-i-ne0 : goal.returns-then-indices-i-ne0
returns-then-indices-i-ne0 c =
    names_field _
    (as_record c.args.self c.by_field-indices.ensures
    (found_here c.loop-i.invariant (omega arith) c.if-indices-i-ne0.true))
    (omega arith)

pub returns : goal.returns
returns c =
    names_none
    (as_record c.args.self c.by_field-indices.ensures
    (none_found_here c.loop-i.invariant (omega arith)))

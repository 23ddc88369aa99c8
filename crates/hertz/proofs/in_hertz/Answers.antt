use Rattle.std.proofs.Common.{◌∙◌, ap, sym, arith, Ok}
use Rattle.lsp.specs.Table.{hz_table}
use Rattle.lsp.proofs.Laws.{hertz_given}
use Rattle.lsp.proofs.Columns.{wide_found, all_fitting}
use Rattle.hertz.proofs.in_hertz.Goals as goal

pub returns-then-indices-i-ne0 : goal.returns-then-indices-i-ne0
returns-then-indices-i-ne0 c = wide_found c.loop-i.invariant (omega arith) c.if-indices-i-ne0.true

-- one computed test of all entries
pub looked_up-requires-clause-printed : goal.looked_up-requires-clause-printed
unfolding hz_table
looked_up-requires-clause-printed c = tt

pub looked_up-requires-clause-indices_value : goal.looked_up-requires-clause-indices_value
looked_up-requires-clause-indices_value c = all_fitting c.loop-i.invariant (omega arith)

pub returns : goal.returns
returns c =
    ap Ok c.looked_up.ensures ∙ sym (hertz_given c.args.indices (all_fitting c.loop-i.invariant (omega arith)))

-- `heard::heard_values` meets its contract: each step's answer put in its place.
use Rattle.std.proofs.Common.{◌∙◌, ap}
use Rattle.gains.specs.Tables.{cg_table, pg_table}
use Rattle.lsp.specs.Table.{hz_in}
use Rattle.lsp.proofs.Laws.{hz_or_none}
use Rattle.values.specs.Values.{gains_of}
use Rattle.values.proofs.Answered.{heard_whole}
use Rattle.heard.proofs.heard_values.Goals as goal

pub returns : goal.returns
unfolding cg_table pg_table
returns c =
    heard_whole c.args.r c.args.before
    (c.gains_in-cg.ensures ∙ ap (gains_of cg_table) c.in_subframes.ensures)
    (c.gains_in-pg.ensures ∙ ap (gains_of pg_table) c.in_subframes-2.ensures) c.delays_of-delays.ensures
    (c.unwrap_or-used.ensures ∙ hz_or_none c.in_hertz.result ∙ ap hz_in c.in_hertz.ensures) c.previous_of-previous.ensures c.averages-averages.ensures
    c.order_mark-mark.ensures c.state_after-state.ensures

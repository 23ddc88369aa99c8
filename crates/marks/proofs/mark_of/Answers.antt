-- `marks::mark_of` meets its contract: the mark of the Hz that are answered, or of ten zeros.
use Rattle.std.proofs.Common.{◌∙◌, ap}
use Rattle.lsp.specs.Order.{mark_of}
use Rattle.lsp.specs.Table.{hz_in}
use Rattle.lsp.proofs.Laws.{hz_or_none}
use Rattle.frame.specs.Answers.{record_mark}
use Rattle.marks.proofs.mark_of.Goals as goal

pub returns : goal.returns
unfolding record_mark
returns c =
    c.order_mark.ensures
    ∙ ap mark_of (c.unwrap_or-hz.ensures ∙ hz_or_none c.in_hertz.result ∙ ap hz_in c.in_hertz.ensures)

-- `coder::codes` meets its contract: the first pair's answer decides, or past it the second's.
use Rattle.std.proofs.Common.{◌∙◌, sym, ap, Ok}
use Rattle.std.proofs.lemmas.Result.{err_from_is_err_and}
use Rattle.delays.proofs.Pairs.{by_first, by_second}
use Rattle.coder.proofs.codes.Goals as goal

pub returns-in_err-a : goal.returns-in_err-a
returns-in_err-a c =
    let p = err_from_is_err_and c.from_residual.result c.from_residual.ensures.1 in
    rw (p.1, p.2) (by_first _ (sym c.in_err-a.ensures))

pub returns-in_err-c : goal.returns-in_err-c
returns-in_err-c c =
    let p = err_from_is_err_and c.from_residual-in_err-c.result c.from_residual-in_err-c.ensures.1 in
    rw (p.1, p.2) (by_second _ (sym c.in_ok-a.ensures) (sym c.in_err-c.ensures))

pub returns : goal.returns
returns c = ap Ok c.both_inside.ensures ∙ by_second _ (sym c.in_ok-a.ensures) (sym c.in_ok-c.ensures)

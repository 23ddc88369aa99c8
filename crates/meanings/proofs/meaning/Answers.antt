-- `meanings::meaning` meets its contract: a code too large is told by its subframe; past the four tests, the delays.
use Rattle.std.proofs.Common.{◌∙◌, ap, arith, get_or, Ok}
use Rattle.delays.specs.Codes.{meant_by}
use Rattle.delays.proofs.Pairs.{first_large, second_large, third_large, fourth_large, none_large}
use Rattle.meanings.proofs.meaning.Goals as goal

pub returns-then-first-gt255 : goal.returns-then-first-gt255
unfolding meant_by
returns-then-first-gt255 c =
    let code = get_or c.args.codes in first_large (code 0 0) (code 1 0) (code 2 0) (code 3 0) (omega arith)

pub returns-then-second-gt63 : goal.returns-then-second-gt63
unfolding meant_by
returns-then-second-gt63 c =
    let code = get_or c.args.codes in second_large (code 0 0) (code 1 0) (code 2 0) (code 3 0) (omega arith) (omega arith)

pub returns-then-third-gt255 : goal.returns-then-third-gt255
unfolding meant_by
returns-then-third-gt255 c =
    let code = get_or c.args.codes in third_large (code 0 0) (code 1 0) (code 2 0) (code 3 0) (omega arith) (omega arith) (omega arith)

pub returns-then-fourth-gt63 : goal.returns-then-fourth-gt63
unfolding meant_by
returns-then-fourth-gt63 c =
    let code = get_or c.args.codes in fourth_large (code 0 0) (code 1 0) (code 2 0) (code 3 0) (omega arith) (omega arith) (omega arith) (omega arith)

pub returns : goal.returns
unfolding meant_by
returns c =
    let code = get_or c.args.codes in ap Ok c.delays_meant.ensures
    ∙ none_large (code 0 0) (code 1 0) (code 2 0) (code 3 0) (omega arith) (omega arith) (omega arith) (omega arith)

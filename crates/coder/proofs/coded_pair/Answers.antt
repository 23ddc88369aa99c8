-- `coder::coded_pair` meets its contract: each test decides one of its cases.
use Rattle.std.proofs.Common.{◌≡◌, ◌∙◌, sym, ap, arith, Err}
use Rattle.std.proofs.lemmas.Result.{err_from_is_err_and}
use Rattle.delays.specs.Codes.{base_of}
use Rattle.delays.proofs.Pairs.{refusal, first_unlisted, second_unlisted, below_window, above_window, inside_window}
use Rattle.coder.proofs.coded_pair.Goals as goal

pub returns-in_err-before : goal.returns-in_err-before
returns-in_err-before c =
    let p = err_from_is_err_and c.from_residual.result c.from_residual.ensures.1 in
    let o = c.in_err-before.ensures.ok_part in
    rw (p.1, p.2)
    (ap Err (refusal _ o c.in_err-before.ensures.value) ∙ first_unlisted _ _ _ (sym o ∙ c.rank_with.ensures))

pub returns-in_err-rank : goal.returns-in_err-rank
returns-in_err-rank c =
    let p = err_from_is_err_and c.from_residual-in_err-rank.result c.from_residual-in_err-rank.ensures.1 in
    let o = c.in_err-rank.ensures.ok_part in
    rw (p.1, p.2)
    (ap Err (refusal _ o c.in_err-rank.ensures.value)
    ∙ second_unlisted _ _ _ (sym c.in_ok-before.ensures.ok_part ∙ c.rank_with.ensures) (sym o ∙ c.rank_with-2.ensures))

pub returns-then-from-low : goal.returns-then-from-low
returns-then-from-low c =
    below_window _ _ _ (sym c.in_ok-before.ensures.ok_part ∙ c.rank_with.ensures)
    (sym c.in_ok-rank.ensures.ok_part ∙ c.rank_with-2.ensures) (c.base-low.ensures ∙ ap base_of c.from.ensures)
    (omega arith)

pub returns-then-step-gt63 : goal.returns-then-step-gt63
returns-then-step-gt63 c =
    above_window _ _ _ (sym c.in_ok-before.ensures.ok_part ∙ c.rank_with.ensures)
    (sym c.in_ok-rank.ensures.ok_part ∙ c.rank_with-2.ensures) (c.base-low.ensures ∙ ap base_of c.from.ensures)
    (omega arith) (omega arith)

pub returns : goal.returns
returns c =
    let s : c.from-3.result ≡ c.in_ok-rank.rank = c.from-3.ensures in
    rw s (inside_window _ _ _ (sym c.in_ok-before.ensures.ok_part ∙ c.rank_with.ensures)
    (sym c.in_ok-rank.ensures.ok_part ∙ c.rank_with-2.ensures) (c.base-low.ensures ∙ ap base_of c.from.ensures)
    (omega arith) (omega arith))

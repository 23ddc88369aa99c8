use Rattle.std.proofs.lemmas.Result.{err_from_is_err_and}
use Rattle.passes.proofs.Through.{sound_walk}
use Rattle.recording.proofs.Judging.{judge_refused, judge_sound}
use Rattle.laws.proofs.Clauses.{clauses}
use Rattle.recording.proofs.judge.Goals as goal

pub summarize-requires : goal.summarize-requires
summarize-requires c = clauses (λ walk_value s_value. record { walk_value = walk_value; s_value = s_value }) (sound_walk _ c.walk_through-walked.ensures c.in_ok-walked.was)

pub returns-in_err-walked : goal.returns-in_err-walked
returns-in_err-walked c =
    let p = err_from_is_err_and c.from_residual.result c.from_residual.ensures.1 in
    rw (p.1, p.2) (judge_refused _ c.walk_through-walked.ensures c.in_err-walked.was)

pub returns : goal.returns
returns c = judge_sound _ c.walk_through-walked.ensures c.in_ok-walked.was c.summarize.ensures

use Rattle.passes.proofs.Passes.{start_walk}
use Rattle.recording.proofs.Judging.{all_summed}
use Rattle.recording.proofs.summarize.Goals as goal

pub pass_after-end-requires : goal.pass_after-end-requires
pass_after-end-requires c =
    start_walk _ c.requires.walk_value c.requires.s_value c.begin.ensures

pub returns : goal.returns
returns c =
    all_summed _ c.args.walk c.fresh.ensures c.begin.ensures
    c.pass_after-end.ensures

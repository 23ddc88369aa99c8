use Rattle.laws.proofs.Filled.{filled_none}
use Rattle.pairs.proofs.Pairs.{put_next, put_whole}
use Rattle.pairs.proofs.put_all.Goals as goal

pub loop-k-init : goal.loop-k-init
loop-k-init c = filled_none 0 _ 56 _ c.requires

pub loop-k-preserved : goal.loop-k-preserved
loop-k-preserved c =
    put_next c.by_field-indices.result c.loop-k.invariant c.loop-k-test.true c.put_pair.ensures

pub returns : goal.returns
returns c =
    put_whole c.args.r c.by_field-indices.ensures c.loop-k.invariant c.loop-k-test.false

use mathlib.Core.Path.{refl}
use Rattle.laws.proofs.Filled.{filled_none}
use Rattle.pairs.proofs.Pairs.{take_lsp, take_subframe, take_whole}
use Rattle.pairs.proofs.take_all.Goals as goal

pub loop-k-init : goal.loop-k-init
loop-k-init c = filled_none 0 _ 10 _ refl

pub loop-k-preserved : goal.loop-k-preserved
loop-k-preserved c =
    take_lsp c.args.bytes.now c.loop-k.invariant
    c.loop-k-test.true c.take_pair.ensures

pub loop-n-init : goal.loop-n-init
loop-n-init c = filled_none 0 _ 16 _ refl

pub loop-n-preserved : goal.loop-n-preserved
loop-n-preserved c =
    take_subframe c.args.bytes.now
    c.loop-n.invariant c.loop-n-test.true c.take_pair-in-loop-n.ensures

pub returns : goal.returns
returns c =
    take_whole _ c.loop-k.invariant c.loop-k-test.false c.loop-n.invariant
    c.loop-n-test.false _ _
    c.take_pair-2.ensures c.take_pair-3.ensures

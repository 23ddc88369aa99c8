use Rattle.std.proofs.Common.{◌+◌, ◌-◌, get_or, pos, arith, rules, to_z-of_z, w32, SFits}
use Rattle.laws.proofs.Filled.{filled_fewer}
use Rattle.excitation.proofs.Periods.{coded_none, coded_first, coded_later, coded_all}
use Rattle.exciter.proofs.adaptive.Goals as goal

pub loop-t-init : goal.loop-t-init
loop-t-init c = coded_none _ _ c.requires.2

pub loop-t-preserved : goal.loop-t-preserved
loop-t-preserved c =
    let f : SFits w32 (get_or c.args.register.now (147 - c.args.whole + c.loop-t.t) (pos 0)) = search rules in
    coded_first _ c.loop-t.invariant (omega arith) (omega arith) (omega arith) (to_z-of_z f)

pub loop-t-2-init : goal.loop-t-2-init
loop-t-2-init c = (
  omega arith,
  record { filled = filled_fewer _ _ _ c.min-fresh.result c.loop-t.invariant.filled c.loop-t-test.false },
)

pub loop-t-2-preserved : goal.loop-t-2-preserved
loop-t-2-preserved c = (
  omega arith,
  let f : SFits w32 (get_or c.loop-t-2.out (c.loop-t-2.t - c.args.whole) (pos 0)) = search rules in
      coded_later _ c.loop-t-2.invariant.1 (omega arith) (omega arith) (omega arith) (to_z-of_z f),
)

pub returns : goal.returns
returns c = coded_all c.loop-t-2.invariant.1 (omega arith)

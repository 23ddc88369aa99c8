use native.Mathlib.Omega.{arith}
use Rattle.passes.proofs.Counting.{repair_small, break_small, counted}
use Rattle.steps.proofs.counted.Goals as goal

pub overflow_add-repaired : goal.overflow_add-repaired
overflow_add-repaired c = omega (arith, c.repair_by.ensures, repair_small c.args.correction)

pub overflow_add-breaks : goal.overflow_add-breaks
overflow_add-breaks c =
    omega (arith, c.break_by.ensures, break_small c.args.sy c.args.at)

pub returns : goal.returns
returns c =
    counted c.args.counts c.args.correction c.args.sy c.args.at
    c.repair_by.ensures c.break_by.ensures

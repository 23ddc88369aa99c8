-- `mixing::whole` meets its contract: a sum below zero, and any other.
use native.Mathlib.Omega.{arith}
use Rattle.mixing.proofs.Rounded.{Below, below, below_goes, below_most, back_fits, below_whole}
use Rattle.mixing.proofs.Rounded.{NotBelow, not_below, up_goes, up_most, up_whole}
use Rattle.mixing.proofs.whole.Goals as goal

-- the two cases
minus : (c : goal.Then-sum-lt0) → Below c.args.sum
minus c = below c.ranges.sum c.if-sum-lt0.true

plus : (c : goal.Else-sum-lt0) → NotBelow c.args.sum
plus c = not_below c.ranges.sum c.if-sum-lt0.false

pub overflow_sub-turned : goal.overflow_sub-turned
overflow_sub-turned c = (minus c).fits

pub overflow_cast-size : goal.overflow_cast-size
overflow_cast-size c = below_goes (minus c)

pub overflow_add-size : goal.overflow_add-size
overflow_add-size c = omega (arith, below_most (minus c))

pub whole_size-below-requires : goal.whole_size-below-requires
whole_size-below-requires c = below_most (minus c)

pub overflow_sub-result : goal.overflow_sub-result
overflow_sub-result c = back_fits (minus c.before) c.whole_size-below.ensures

pub returns-then-sum-lt0 : goal.returns-then-sum-lt0
returns-then-sum-lt0 c = below_whole (minus c.before) c.whole_size-below.ensures

pub overflow_cast-size-2 : goal.overflow_cast-size-2
overflow_cast-size-2 c = up_goes (plus c)

pub whole_size-requires : goal.whole_size-requires
whole_size-requires c = up_most (plus c)

pub returns : goal.returns
returns c = up_whole (plus c.before) c.whole_size.ensures

-- `mixing::sum_of` meets its contract: both products and the sum fit 64 bits.
use Rattle.mixing.proofs.Sums.{scaled_fits, sum_fits, sum_is}
use Rattle.mixing.proofs.sum_of.Goals as goal

pub overflow_mul-scaled : goal.overflow_mul-scaled
overflow_mul-scaled c =
    let x = c.ranges in scaled_fits x.cg x.ternary x.pg x.adaptive c.product-code.ensures c.product-past.ensures

pub overflow_add-result : goal.overflow_add-result
overflow_add-result c =
    let x = c.ranges in sum_fits x.cg x.ternary x.pg x.adaptive c.product-code.ensures c.product-past.ensures

pub returns : goal.returns
returns c =
    let x = c.ranges in sum_is x.cg x.ternary x.pg x.adaptive c.product-code.ensures c.product-past.ensures

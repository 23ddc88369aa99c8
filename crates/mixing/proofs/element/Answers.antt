-- `mixing::element` meets its contract: the whole number of the sum.
use borrow.Author.Rules.{sfits_of}
use Rattle.mixing.proofs.Sums.{element_is}
use Rattle.mixing.proofs.element.Goals as goal

pub returns : goal.returns
returns c =
    let x = c.ranges in element_is x.cg x.ternary x.pg x.adaptive (sfits_of c.sum_of.type_inv)
    c.sum_of.ensures (sfits_of c.whole.type_inv) c.whole.ensures

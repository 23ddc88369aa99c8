-- `decimals::digits` meets its contract, by the logarithm.
use Rattle.text.proofs.Decimal.{decimal_long}
use Rattle.decimals.proofs.digits.Goals as goal

pub returns : goal.returns
returns c = decimal_long _ _ c.max.ensures c.ilog10.ensures.power_le c.ilog10.ensures.next_power_gt

use mathlib.Core.Path.{◌∙◌}
use native.Mathlib.Omega.{arith}
use Rattle.laws.proofs.Filled.{filled_done}
use Rattle.frame.specs.Frame.{packed}
use Rattle.frame.proofs.Answered.{parity_fits, frame_is}
use Rattle.packer.proofs.frame_of.Goals as goal

pub overflow_cast-fields : goal.overflow_cast-fields
overflow_cast-fields c = omega (arith, parity_fits _ _ _ c.to_fields-fields.ensures c.number_of.ensures)

pub returns : goal.returns
unfolding packed
returns c =
    filled_done 0 _ 18 _ c.loop-k-test.false c.loop-k.invariant
    ∙ frame_is _ _ _ c.to_fields-fields.ensures c.number_of.ensures

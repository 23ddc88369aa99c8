-- `exciter::moved` meets its contract: the last elements of the old, and then the new.
use Rattle.std.proofs.Common.{refl, ap}
use Rattle.excitation.specs.Register.{holding}
use Rattle.excitation.proofs.Shifts.{moved_is}
use Rattle.exciter.proofs.moved.Goals as goal

pub returns : goal.returns
returns c =
    rw c.copy_from_slice-2.ensures.after
    (ap holding (moved_is _ _ _ c.requires.before_len c.requires.len refl c.copy_from_slice.ensures.after))

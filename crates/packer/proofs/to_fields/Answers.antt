-- `packer::to_fields` meets its contract: the parity bits, 0, and then the indices.
use mathlib.Core.Path.{◌∙◌}
use Rattle.std.proofs.Common.{append-nil}
use Rattle.frame.proofs.Listed.{fields_listed}
use Rattle.packer.proofs.to_fields.Goals as goal

pub returns : goal.returns
returns c = rw append-nil (fields_listed c.args.r (c.copy_from_slice.ensures.after ∙ c.by_field.ensures))

-- `packer::frame_of` meets its contract: the indices by field, their parity, and a loop over the bytes. Its invariant:
-- the bytes passed hold their eight bits.
use lib.ListN.{get_or}
use Rattle.laws.proofs.Filled.{Filled}
use Rattle.frame.specs.Frame.{sent}
use Rattle.frame.proofs.Laws.{packed_byte}
use Rattle.packer.proofs.frame_of.Given as goal

abbrev pub invariant-loop-k : goal.invariant-loop-k
invariant-loop-k l = Filled 0 (packed_byte (sent (λ f. get_or l.fields f 0))) 18 l.k l.byte-items

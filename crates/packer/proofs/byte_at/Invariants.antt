-- `packer::byte_at` meets its contract. The loop's invariant: the bits passed are shifted in, the last of them lowest.
use Prim.Native.Nat.{◌*◌}
use lib.ListN.{get_or}
use Rattle.frame.specs.Frame.{sent}
use Rattle.frame.proofs.Packed.{Shifted}
use Rattle.frame.proofs.Packed.{sent_small}
use Rattle.packer.proofs.byte_at.Given as goal

abbrev pub invariant-loop-q : goal.invariant-loop-q
invariant-loop-q l = Shifted (sent (λ f. get_or l.fields f 0)) (sent_small (λ f. get_or l.fields f 0)) (8 * l.k) l.q l.x

use Prim.Native.Nat.{◌-◌}
use lib.ListN.{length}
use Rattle.blocks.proofs.Voices.{Seeking}
use Rattle.voices.proofs.span_from.Given as goal

abbrev pub invariant-loop-voices : goal.invariant-loop-voices
invariant-loop-voices l = Seeking l.s l.voices l.k l.at l.before

abbrev pub decreases-loop-voices : goal.decreases-loop-voices
decreases-loop-voices l = length l.s - l.at

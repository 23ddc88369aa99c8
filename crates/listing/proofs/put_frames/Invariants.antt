use Prim.Native.Nat.{◌-◌}
use lib.ListN.{length}
use Rattle.blocks.specs.Frames.{frames_of}
use Rattle.listing.proofs.Frames.{Listing}
use Rattle.listing.proofs.put_frames.Given as goal

abbrev pub invariant-loop-pass : goal.invariant-loop-pass
invariant-loop-pass l = Listing l.initial.pass.state l.s l.initial.out l.start l.out l.end l.pass

abbrev pub decreases-loop-pass : goal.decreases-loop-pass
decreases-loop-pass l = length (frames_of l.s) - l.pass.frames

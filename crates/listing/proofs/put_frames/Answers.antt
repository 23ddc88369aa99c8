use native.Mathlib.Omega.{arith}
use Rattle.passes.proofs.Through.{step_further}
use Rattle.text.proofs.Laid.{put_length}
use Rattle.listing.proofs.Frames.{listing_start, listing_on, listing_done}
use Rattle.laws.proofs.Clauses.{clauses}
use Rattle.listing.proofs.put_frames.Goals as goal

pub loop-pass-init : goal.loop-pass-init
loop-pass-init c = listing_start _ _ _ _ c.requires.pass_value c.requires.start_in_bounds

pub returns-then-step-pass : goal.returns-then-step-pass
returns-then-step-pass c = clauses (λ value out_after. record { value = value; out_after = out_after }) (listing_done c.loop-pass.invariant c.next-step.ensures c.if-step-pass.true (c.put.ensures.value, c.put.ensures.out_after))

pub loop-pass-smaller : goal.loop-pass-smaller
loop-pass-smaller c =
    let f = step_further c.loop-pass.invariant.passing c.next-step.ensures c.if-step-pass.false in
    omega (arith, f.more, f.one)

pub loop-pass-preserved : goal.loop-pass-preserved
loop-pass-preserved c =
    listing_on c.loop-pass.invariant c.next-step.ensures c.if-step-pass.false c.said.ensures (c.put-end.ensures.value, c.put-end.ensures.out_after)

pub shape_of-out-then-step-pass : goal.shape_of-out-then-step-pass
shape_of-out-then-step-pass c = put_length _ _ _ ((returns-then-step-pass c).value, (returns-then-step-pass c).out_after)

use Rattle.passes.proofs.Passes.{start_walk}
use Rattle.text.proofs.Laid.{put_length, put_within}
use Rattle.listing.proofs.Listings.{sound_put}
use Rattle.laws.proofs.Clauses.{clauses}
use Rattle.listing.proofs.put_sound.Goals as goal

pub put_frames-requires : goal.put_frames-requires
put_frames-requires c = record { pass_value = start_walk _ c.requires.walk_value c.requires.s_value c.begin-begun.ensures; start_in_bounds = put_within _ _ _ (c.put-start.ensures.value, c.put-start.ensures.out_after) }

pub returns : goal.returns
returns c = clauses (λ value out_after. record { value = value; out_after = out_after }) (sound_put _ c.args.walk _ c.fresh.ensures
    c.begin-begun.ensures (c.put-start.ensures.value, c.put-start.ensures.out_after) (c.put_frames.ensures.value, c.put_frames.ensures.out_after))

pub shape_of-out : goal.shape_of-out
shape_of-out c = put_length _ _ _ ((returns c).value, (returns c).out_after)

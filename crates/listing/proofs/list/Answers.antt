use Rattle.passes.proofs.Through.{sound_walk}
use Rattle.text.proofs.Laid.{put_length}
use Rattle.listing.proofs.Listings.{wrong_length, listed_refused, listed_sound}
use Rattle.laws.proofs.Clauses.{clauses}
use Rattle.listing.proofs.list.Goals as goal

pub returns-then-out-ne131072 : goal.returns-then-out-ne131072
returns-then-out-ne131072 c = clauses (λ value out_after. record { value = value; out_after = out_after }) (wrong_length _ _ c.if-out-ne131072.true)

pub put_sound-requires : goal.put_sound-requires
put_sound-requires c = clauses (λ walk_value s_value. record { walk_value = walk_value; s_value = s_value }) (sound_walk _ c.walk_through-walked.ensures c.in-Ok.is)

pub shape_of-out-in-Err : goal.shape_of-out-in-Err
shape_of-out-in-Err c = put_length _ _ _ (c.put.ensures.value, c.put.ensures.out_after)

pub returns-in-Err : goal.returns-in-Err
returns-in-Err c = clauses (λ value out_after. record { value = value; out_after = out_after }) (listed_refused _ _ (λ i. (c.shared_slice_known-1.given i).fits) c.if-out-ne131072.false c.walk_through-walked.ensures
    c.in-Err.is (c.put.ensures.value, c.put.ensures.out_after))

pub shape_of-out-in-Ok : goal.shape_of-out-in-Ok
shape_of-out-in-Ok c = put_length _ _ _ (c.put_sound.ensures.value, c.put_sound.ensures.out_after)

pub returns-in-Ok : goal.returns-in-Ok
returns-in-Ok c = clauses (λ value out_after. record { value = value; out_after = out_after }) (listed_sound _ _ (λ i. (c.shared_slice_known-1.given i).fits) c.if-out-ne131072.false c.walk_through-walked.ensures
    c.in-Ok.is
    (c.put_sound.ensures.value, c.put_sound.ensures.out_after))

use mathlib.Core.Path.{◌∙◌, ap}
use lib.ListN.{length}
use Rattle.text.proofs.Laid.{length_laid, put_within}
use Rattle.restorer.proofs.Puts.{write_put}
use Rattle.laws.proofs.Clauses.{clauses}
use Rattle.restorer.proofs.write.Goals as goal

pub put_voices-whole-requires : goal.put_voices-whole-requires
put_voices-whole-requires c = record { start_in_bounds = put_within _ _ _ (c.put_head-start.ensures.value, c.put_head-start.ensures.out_after); s_len_bound = c.requires.s_len_bound }

pub put_rest-end-requires : goal.put_rest-end-requires
put_rest-end-requires c = record { end_in_bounds = put_within _ _ _ (c.put_voices-whole.ensures.value, c.put_voices-whole.ensures.out_after); s_len_bound = c.requires.s_len_bound; frames_in_bounds = c.requires.rest_in_bounds }

pub returns : goal.returns
returns c = clauses (λ value out_after. record { value = value; out_after = out_after }) (write_put _ _ c.args.keep (c.put_head-start.ensures.value, c.put_head-start.ensures.out_after) (c.put_voices-whole.ensures.value, c.put_voices-whole.ensures.out_after)
    (c.put_rest-end.ensures.value, c.put_rest-end.ensures.out_after) (c.put_end.ensures.value, c.put_end.ensures.out_after))

pub shape_of-out : goal.shape_of-out
shape_of-out c = ap length (returns c).out_after ∙ length_laid _ _ _

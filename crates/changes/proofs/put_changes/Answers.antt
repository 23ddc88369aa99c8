use Rattle.text.proofs.Laid.{put_as, put_length}
use Rattle.changes.proofs.Texts.{changes_put}
use Rattle.laws.proofs.Clauses.{clauses}
use Rattle.changes.proofs.put_changes.Goals as goal

pub returns : goal.returns
returns c = clauses (λ value out_after. record { value = value; out_after = out_after }) (changes_put _ _ c.args.changes (c.put_dropped-first.ensures.value, c.put_dropped-first.ensures.out_after)
    (put_as _ _ _ _ c.kept.ensures (c.put_form-second.ensures.value, c.put_form-second.ensures.out_after))
    (put_as _ _ _ _ c.end.ensures (c.put_form.ensures.value, c.put_form.ensures.out_after)))

pub shape_of-out : goal.shape_of-out
shape_of-out c = put_length _ _ _ ((returns c).value, (returns c).out_after)

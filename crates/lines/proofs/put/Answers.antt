-- `lines::put` meets its contract: the form of the line is laid.
use Rattle.text.proofs.Laid.{put_as, put_length}
use Rattle.laws.proofs.Clauses.{clauses}
use Rattle.lines.proofs.put.Goals as goal

pub returns : goal.returns
returns c = clauses (λ value out_after. record { value = value; out_after = out_after }) (put_as _ _ _ _ c.form_of.ensures (c.put_form.ensures.value, c.put_form.ensures.out_after))

pub shape_of-out : goal.shape_of-out
shape_of-out c = put_length _ _ _ (put_as _ _ _ _ c.form_of.ensures (c.put_form.ensures.value, c.put_form.ensures.out_after))

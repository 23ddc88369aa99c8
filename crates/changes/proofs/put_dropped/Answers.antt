use mathlib.Core.Path.{◌∙◌}
use Rattle.text.proofs.Laid.{put_as, put_nothing, put_length}
use Rattle.changes.proofs.Texts.{dropped_none, dropped_some}
use Rattle.laws.proofs.Clauses.{clauses}
use Rattle.changes.proofs.put_dropped.Goals as goal

pub returns-then-bytes-eq0 : goal.returns-then-bytes-eq0
returns-then-bytes-eq0 c = clauses (λ value out_after. record { value = value; out_after = out_after }) (put_as _ _ _ _ (dropped_none _ _ c.if-bytes-eq0.true) (put_nothing _ _ c.min.ensures))

pub returns : goal.returns
returns c = clauses (λ value out_after. record { value = value; out_after = out_after }) (put_as _ _ _ _ (c.dropped.ensures ∙ dropped_some _ _ c.if-bytes-eq0.false) (c.put_form.ensures.value, c.put_form.ensures.out_after))

pub shape_of-out : goal.shape_of-out
shape_of-out c = put_length _ _ _ ((returns c).value, (returns c).out_after)

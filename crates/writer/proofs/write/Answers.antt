-- `writer::write` meets its contract: the refusals in their order, then the frame.
use mathlib.Core.Path.{◌∙◌, sym}
use Rattle.frame.proofs.Answered.{wrong_length, field_told, falling, expansion, accepted, answered, laid}
use Rattle.record.proofs.Laws.{none_is}
use Rattle.laws.proofs.Clauses.{clauses}
use Rattle.writer.proofs.write.Goals as goal

pub returns-then-frame-ne18 : goal.returns-then-frame-ne18
returns-then-frame-ne18 c = clauses (λ value frame_after. record { value = value; frame_after = frame_after }) (answered _ _ _ (wrong_length _ _ c.if-frame-ne18.true))

pub returns-in-Some : goal.returns-in-Some
returns-in-Some c = clauses (λ value frame_after. record { value = value; frame_after = frame_after }) (answered _ _ _ (field_told _ _ c.if-frame-ne18.false c.in-Some.ensures))

pub returns-then-mark-ne0 : goal.returns-then-mark-ne0
returns-then-mark-ne0 c = clauses (λ value frame_after. record { value = value; frame_after = frame_after }) (answered _ _ _ (falling _ _ c.if-frame-ne18.false (none_is (sym c.in_default.is ∙ c.too_large.ensures)) _
    c.mark_of-mark.ensures c.if-mark-ne0.true))

pub returns-then-r-ne0 : goal.returns-then-r-ne0
returns-then-r-ne0 c = clauses (λ value frame_after. record { value = value; frame_after = frame_after }) (answered _ _ _ (expansion _ _ c.if-frame-ne18.false (none_is (sym c.in_default.is ∙ c.too_large.ensures)) (sym c.mark_of-mark.ensures ∙ c.if-mark-ne0.false) c.if-r-ne0.true))

pub returns : goal.returns
returns c = clauses (λ value frame_after. record { value = value; frame_after = frame_after }) (laid _ _ _ (accepted _ _ c.if-frame-ne18.false (none_is (sym c.in_default.is ∙ c.too_large.ensures)) (sym c.mark_of-mark.ensures ∙ c.if-mark-ne0.false)
    c.if-r-ne0.false) (c.copy_from_slice.ensures.after ∙ c.frame_of.ensures))

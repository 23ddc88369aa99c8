use mathlib.Core.Path.{◌≡◌, ◌∙◌, refl, ap}
use Rattle.std.specs.Prelude.{Ok}
use Rattle.text.proofs.Laid.{put_nothing, put_length}
use Rattle.changes.specs.Telling.{refused_line}
use Rattle.changes.proofs.Texts.{told_as}
use Rattle.laws.proofs.Clauses.{clauses}
use Rattle.changes.proofs.put.Goals as goal

pub returns-in-Ok-Sound : goal.returns-in-Ok-Sound
returns-in-Ok-Sound c = clauses (λ value out_after. record { value = value; out_after = out_after }) (told_as _ _ _ (let i : c.args.salvaged ≡ Ok c.in-Ok-Sound.field-0 = c.in-Ok-Sound.is in i ∙ ap Ok (rw i at c.in-Ok-Sound.field-0-is)) refl (put_nothing _ _ c.min.ensures))

pub returns-in-Ok-Mended : goal.returns-in-Ok-Mended
returns-in-Ok-Mended c = clauses (λ value out_after. record { value = value; out_after = out_after }) (told_as _ _ _ (let i : c.args.salvaged ≡ Ok c.in-Ok-Mended.field-0 = c.in-Ok-Mended.is in i ∙ ap Ok (rw i at c.in-Ok-Mended.field-0-is)) refl (c.put_changes.ensures.value, c.put_changes.ensures.out_after))

pub returns-in-Err : goal.returns-in-Err
returns-in-Err c = clauses (λ value out_after. record { value = value; out_after = out_after }) (told_as _ _ _ c.in-Err.is
    (c.refused.ensures ∙ ap refused_line c.refusal_number.ensures) (c.put_form.ensures.value, c.put_form.ensures.out_after))

pub shape_of-out-in-Ok-Mended : goal.shape_of-out-in-Ok-Mended
shape_of-out-in-Ok-Mended c = put_length _ _ _ ((returns-in-Ok-Mended c).value, (returns-in-Ok-Mended c).out_after)

pub shape_of-out-in-Err : goal.shape_of-out-in-Err
shape_of-out-in-Err c = put_length _ _ _ ((returns-in-Err c).value, (returns-in-Err c).out_after)

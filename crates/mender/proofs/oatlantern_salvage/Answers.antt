-- `mender::oatlantern_salvage` meets its contract: what salvaging answered and left, in numbers.
use mathlib.Core.Path.{◌∙◌, ap}
use borrow.Author.Rules.{sfits_of}
use mir.Facts.{to_z-of_z}
use mir.Syntax.{w32}
use Rattle.std.specs.Prelude.{Ok}
use Rattle.mender.proofs.Told.{refused_by, came_to}
use Rattle.mender.proofs.oatlantern_salvage.Goals as goal

pub returns-in-Ok-Sound : goal.returns-in-Ok-Sound
returns-in-Ok-Sound c =
    let k = came_to _ _ c.salvage.ensures.value (c.in-Ok-Sound.is ∙ ap Ok c.in-Ok-Sound.field-0-is) in
    record { value = k.0; out_after = c.salvage.ensures.out_after; changes_after = k.1 }

pub returns-in-Ok-Mended : goal.returns-in-Ok-Mended
returns-in-Ok-Mended c =
    let k = came_to _ _ c.salvage.ensures.value (c.in-Ok-Mended.is ∙ ap Ok c.in-Ok-Mended.field-0-is) in
    record { value = k.0; out_after = c.salvage.ensures.out_after; changes_after = k.1 }

pub returns-in-Err : goal.returns-in-Err
returns-in-Err c =
    let k = came_to _ _ c.salvage.ensures.value c.in-Err.is in
    let r =
    refused_by c.in-Err.why c.refusal_number.ensures
    (to_z-of_z {w = w32} (sfits_of c.minus.type_inv) ∙ c.minus.ensures) in
    record { value = r ∙ k.0; out_after = c.salvage.ensures.out_after; changes_after = k.1 }

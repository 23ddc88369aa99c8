-- `decoder::values_of` meets its contract: a return for each outcome.
use mathlib.Core.Path.{◌∙◌, sym, refl}
use native.Mathlib.Omega.{arith}
use Rattle.record.proofs.Laws.{field_is, none_is}
use Rattle.values.proofs.Answered.{field_told, expansion_told, heard_told}
use Rattle.decoder.proofs.values_of.Goals as goal

pub returns-in-Some : goal.returns-in-Some
returns-in-Some c =
    let k = field_is c.in-Some.ensures in
    field_told c.args.r c.args.before (sym k.0) (λ z. k.1 (k.0 ∙ z)) c.refused.ensures

pub returns-then-sp-ne0 : goal.returns-then-sp-ne0
returns-then-sp-ne0 c =
    expansion_told c.args.r c.args.before (sym (none_is (sym c.in_default.is ∙ c.too_large.ensures))) refl (λ z. omega arith)
    c.sync_kept.ensures
    c.refused-then-sp-ne0.ensures

pub returns : goal.returns
returns c =
    heard_told c.args.r c.args.before (sym (none_is (sym c.in_default.is ∙ c.too_large.ensures))) refl (omega arith)
    c.heard_values.ensures

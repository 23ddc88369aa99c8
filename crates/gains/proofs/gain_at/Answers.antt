-- `gains::gain_at` meets its contract. An entry of 16 bits is the same number at 32.
use Rattle.std.proofs.Common.{◌≤◌, ◌∙◌, sym, ap, arith, Ok}
use Rattle.std.proofs.lemmas.Grind.{common_steps}
use Rattle.gains.proofs.Laws.{gain_value, gain_too_large}
use Rattle.gains.proofs.gain_at.Goals as goal

pub returns-then-index-gt31 : goal.returns-then-index-gt31
returns-then-index-gt31 c = sym (gain_too_large _ _ (omega arith))

pub returns : goal.returns
returns c =
    let h : c.args.index ≤ 31 = omega arith in
    ap Ok (grind (arith, common_steps)) ∙ sym (gain_value _ _ h)

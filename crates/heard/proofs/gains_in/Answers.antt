-- `heard::gains_in` meets its contract.
use mathlib.Core.Path.{◌∙◌}
use borrow.Author.Rules.{sfits_of}
use mir.Facts.{to_z-of_z}
use mir.Syntax.{w32}
use Rattle.values.proofs.Answered.{four}
use Rattle.heard.proofs.gains_in.Goals as goal

pub returns : goal.returns
returns c =
    let a = c.gain_in-a in let b = c.gain_in-b in let d = c.gain_in-c in let e = c.gain_in-d in four (to_z-of_z {w = w32} (sfits_of a.type_inv) ∙ a.ensures) (to_z-of_z {w = w32} (sfits_of b.type_inv) ∙ b.ensures)
    (to_z-of_z {w = w32} (sfits_of d.type_inv) ∙ d.ensures)
    (to_z-of_z {w = w32} (sfits_of e.type_inv) ∙ e.ensures)

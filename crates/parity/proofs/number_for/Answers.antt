-- `parity::number_for` meets its contract: the correction is one of its cases.
use mathlib.Core.Path.{◌∙◌, sym, ap}
use Rattle.frame.specs.Correction.{number_of_case}
use Rattle.parity.proofs.number_for.Goals as goal

pub returns-in-Clean : goal.returns-in-Clean
returns-in-Clean c = ap number_of_case (sym c.in-Clean.is)

pub returns-in-Parity : goal.returns-in-Parity
returns-in-Parity c = ap number_of_case (sym c.in-Parity.is)

pub returns-in-Data : goal.returns-in-Data
returns-in-Data c = c.data_number.ensures ∙ ap number_of_case (sym c.in-Data.is)

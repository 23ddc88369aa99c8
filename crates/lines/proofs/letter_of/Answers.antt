-- `lines::letter_of` meets its contract: the correction is one of its cases.
use native.Mathlib.Omega.{arith}
use Rattle.lines.proofs.Lines.{letter_told}
use Rattle.lines.proofs.letter_of.Goals as goal

pub returns-in-Clean : goal.returns-in-Clean
returns-in-Clean c = letter_told _ c.in-Clean.is (omega arith)

pub returns-in-Parity : goal.returns-in-Parity
returns-in-Parity c = letter_told _ c.in-Parity.is (omega arith)

pub returns-in-Data : goal.returns-in-Data
returns-in-Data c = letter_told _ c.in-Data.is (omega arith)

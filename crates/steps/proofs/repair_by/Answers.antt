use Rattle.passes.proofs.Counting.{repair_told}
use Rattle.steps.proofs.repair_by.Goals as goal

pub returns-in-Clean : goal.returns-in-Clean
returns-in-Clean c = repair_told _ c.in-Clean.is

pub returns-in-Parity : goal.returns-in-Parity
returns-in-Parity c = repair_told _ c.in-Parity.is

pub returns-in-Data : goal.returns-in-Data
returns-in-Data c = repair_told _ c.in-Data.is

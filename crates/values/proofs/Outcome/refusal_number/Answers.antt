use mathlib.Core.Path.{sym, ap}
use Rattle.values.specs.Outcome.{refusal_of}
use Rattle.values.proofs.Outcome.refusal_number.Goals as goal

pub returns-in-Heard : goal.returns-in-Heard
returns-in-Heard c = ap refusal_of (sym c.in-Heard.is)

pub returns-in-TooLarge : goal.returns-in-TooLarge
returns-in-TooLarge c = ap refusal_of (sym c.in-TooLarge.is)

pub returns-in-Expansion : goal.returns-in-Expansion
returns-in-Expansion c = ap refusal_of (sym c.in-Expansion.is)

pub returns-in-Nothing : goal.returns-in-Nothing
returns-in-Nothing c = ap refusal_of (sym c.in-Nothing.is)

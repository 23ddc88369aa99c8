-- `lines::last` meets its contract.
use Rattle.lines.proofs.Lines.{last_text}
use Rattle.lines.proofs.last.Goals as goal

pub returns : goal.returns
returns c = last_text c.args.repaired c.args.breaks

-- `lines::head` meets its contract.
use Rattle.lines.proofs.Lines.{head_text}
use Rattle.lines.proofs.head.Goals as goal

pub returns : goal.returns
returns c = head_text c.args.heading c.args.frames

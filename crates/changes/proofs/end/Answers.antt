use Rattle.changes.proofs.Texts.{end_text}
use Rattle.changes.proofs.end.Goals as goal

pub returns : goal.returns
returns c = end_text _

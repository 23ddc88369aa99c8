use Rattle.changes.proofs.Texts.{kept_text}
use Rattle.changes.proofs.kept.Goals as goal

pub returns : goal.returns
returns c = kept_text _

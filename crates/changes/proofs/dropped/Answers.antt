use Rattle.changes.proofs.Texts.{dropped_text_lem}
use Rattle.changes.proofs.dropped.Goals as goal

pub returns : goal.returns
returns c = dropped_text_lem _ _

use Rattle.changes.proofs.Texts.{refused_text}
use Rattle.changes.proofs.refused.Goals as goal

pub returns : goal.returns
returns c = refused_text _

use Rattle.lines.proofs.Lines.{place_text}
use Rattle.lines.proofs.refusal_at.Goals as goal

pub returns : goal.returns
returns c = place_text _ _

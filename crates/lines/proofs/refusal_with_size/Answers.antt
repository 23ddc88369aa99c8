use Rattle.lines.proofs.Lines.{size_text}
use Rattle.lines.proofs.refusal_with_size.Goals as goal

pub returns : goal.returns
returns c = size_text _ _ _

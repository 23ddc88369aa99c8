use Rattle.lines.proofs.Lines.{shows_refused}
use Rattle.lines.proofs.refused.Goals as goal

pub returns : goal.returns
returns c =
    shows_refused _ c.refusal_number-number.ensures c.tells.ensures c.refusal.ensures

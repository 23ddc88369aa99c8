-- `heard::in_subframes` meets its contract.
use Rattle.values.proofs.Answered.{placed}
use Rattle.heard.proofs.in_subframes.Goals as goal

pub returns : goal.returns
returns c = placed c.args.r c.args.place c.requires

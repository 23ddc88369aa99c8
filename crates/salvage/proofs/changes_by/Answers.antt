use native.Mathlib.Omega.{arith}
use Rattle.salvage.proofs.Returns.{changes_told}
use Rattle.salvage.proofs.changes_by.Goals as goal

pub returns : goal.returns
returns c =
    let x = c.args in changes_told x.long x.frames x.end (omega arith) (omega arith) (omega arith) (omega arith)

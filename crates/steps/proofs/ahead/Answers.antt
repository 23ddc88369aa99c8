use native.Mathlib.Omega.{arith}
use mathlib.Core.Path.{◌∙◌, sym}
use Rattle.passes.proofs.Passes.{ahead_many, ahead_repaired, ahead_broken, ahead_found}
use Rattle.steps.proofs.ahead.Goals as goal
use Rattle.steps.proofs.ahead.Goals.{then-passed-gt65536-via-then-passed-gt65536, then-passed-gt65536-via-else-passed-gt65536+then-passed-pass, then-passed-gt65536-via-else-passed-gt65536+else-passed-pass+then-passed-pass-2}

pub returns-then-passed-gt65536 : goal.returns-then-passed-gt65536
returns-then-passed-gt65536 c =
    elim c.then-passed-gt65536.branch [
      | then-passed-gt65536-via-then-passed-gt65536 w ↦ ahead_many _ c.args.pass (omega arith)
      | then-passed-gt65536-via-else-passed-gt65536+then-passed-pass w ↦
          ahead_repaired _ c.args.pass (omega arith) (omega arith)
      | then-passed-gt65536-via-else-passed-gt65536+else-passed-pass+then-passed-pass-2 w ↦
          ahead_broken _ c.args.pass (omega arith) (omega arith) (omega arith)
    ]

pub returns : goal.returns
returns c = c.find.ensures ∙ sym (ahead_found _ c.args.pass (omega arith) (omega arith) (omega arith))

use native.Mathlib.Omega.{arith}
use Rattle.kept.proofs.Returns.{plan_no_head, plan_no_frame, plan_keep}
use Rattle.kept.proofs.plan_by.Goals as goal

pub returns-then-not-walk : goal.returns-then-not-walk
returns-then-not-walk c = plan_no_head c.args.walk _ _ c.if-not-walk.true

pub overflow_add-walk : goal.overflow_add-walk
overflow_add-walk c = omega (arith, c.requires)

pub returns-then-walk-left-eq0 : goal.returns-then-walk-left-eq0
returns-then-walk-left-eq0 c = plan_no_frame c.args.walk _ _ c.if-not-walk.false
    (omega (arith, c.if-walk-left-eq0.true))

pub keep_by-requires : goal.keep_by-requires
keep_by-requires c =
    record { frames_bound = c.requires.frames_bound; left_bound = c.requires.left_bound; left_nonzero = omega (arith, c.if-walk-left-eq0.false) }

pub returns : goal.returns
returns c =
    plan_keep c.args.walk _ _ c.if-not-walk.false
    (λ z. c.if-walk-left-eq0.false (omega (arith, z)))
    c.keep_by.ensures

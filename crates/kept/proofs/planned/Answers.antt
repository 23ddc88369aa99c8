use mathlib.Core.Path.{◌∙◌, sym, ap}
use native.Mathlib.Omega.{arith}
use Rattle.blocks.specs.declared.Walked.{Walked}
use Rattle.kept.proofs.Plans.{plan_long, plan_buffer, plan_walked, plan_room}
use Rattle.kept.proofs.Returns.{sound_ok}
use Rattle.laws.proofs.Clauses.{clauses}
use Rattle.kept.proofs.planned.Goals as goal

pub returns-then-s-gt65536 : goal.returns-then-s-gt65536
returns-then-s-gt65536 c = plan_long _ _ (omega (arith, c.if-s-gt65536.true))

pub returns-then-room-ne65536 : goal.returns-then-room-ne65536
returns-then-room-ne65536 c = plan_buffer _ _ (omega (arith, c.if-s-gt65536.false)) (λ e. c.if-room-ne65536.true (omega (arith, e)))

pub left_of-left-requires : goal.left_of-left-requires
left_of-left-requires c = record { s_len_bound = omega (arith, c.if-s-gt65536.false); s_value = ap (λ (w : Walked). w.ending) (sym c.walk_through-walked.ensures) }

pub plan_by-requires : goal.plan_by-requires
plan_by-requires c = clauses (λ frames_bound left_bound. record { frames_bound = frames_bound; left_bound = left_bound }) (plan_room _ _ _ (omega (arith, c.if-s-gt65536.false)) c.walk_through-walked.ensures c.left_of-left.ensures)

pub returns : goal.returns
returns c =
    c.plan_by.ensures
    ∙ plan_walked _ _ (omega (arith, c.if-s-gt65536.false)) (omega (arith, c.if-room-ne65536.false)) _
    c.walk_through-walked.ensures _ _ c.left_of-left.ensures (c.is_ok.ensures.value ∙ sound_ok _)

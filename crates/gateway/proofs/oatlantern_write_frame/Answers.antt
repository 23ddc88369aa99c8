-- `gateway::oatlantern_write_frame` meets its contract: the record taken and its frame asked for, or the refusal.
use mathlib.Core.Path.{◌∙◌}
use borrow.Author.Rules.{sfits_of}
use mir.Facts.{to_z-of_z}
use mir.Syntax.{w32}
use Rattle.gateway.proofs.Answered.{wrong_bytes, was_asked}
use Rattle.laws.proofs.Clauses.{clauses}
use Rattle.gateway.proofs.oatlantern_write_frame.Goals as goal

pub returns-in-Some : goal.returns-in-Some
returns-in-Some c = clauses (λ value frame_after. record { value = value; frame_after = frame_after }) (was_asked _ _ c.in-Some.ensures c.write.ensures.value c.write.ensures.frame_after
    (to_z-of_z {w = w32} (sfits_of c.result.type_inv) ∙ c.result.ensures))

pub returns-in-None : goal.returns-in-None
returns-in-None c = clauses (λ value frame_after. record { value = value; frame_after = frame_after }) (wrong_bytes _ _ c.in-None.ensures)

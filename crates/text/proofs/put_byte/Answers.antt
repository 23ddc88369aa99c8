-- `text::put_byte` meets its contract: one byte, or a position past the end.
use Rattle.laws.proofs.Clauses.{clauses}
use Rattle.text.proofs.Turns.{past, byte}
use Rattle.text.proofs.put_byte.Goals as goal

pub returns-then-at-long : goal.returns-then-at-long
returns-then-at-long c = clauses (λ value out_after. record { value = value; out_after = out_after }) (byte _ _ _ c.if-at-long.true)

pub returns : goal.returns
returns c = clauses (λ value out_after. record { value = value; out_after = out_after }) (past _ _ _ c.if-at-long.false)

-- `entering::append` meets its contract.
use native.Mathlib.Omega.{arith}
use Rattle.tally.proofs.Rows.{no_room, room}
use Rattle.laws.proofs.Clauses.{clauses}
use Rattle.entering.proofs.append.Goals as goal

pub returns-then-row-lt-ROWS : goal.returns-then-row-lt-ROWS
returns-then-row-lt-ROWS c = clauses (λ value book_after. record { value = value; book_after = book_after }) (room _ _ c.requires (omega arith))

pub returns : goal.returns
returns c = clauses (λ value book_after. record { value = value; book_after = book_after }) (no_room _ _ c.requires (omega arith))

-- `ledger::oatlantern_tally_held` meets its contract: a key that is held, and one that is not.
use Rattle.ledger.proofs.Told.{held_told}
use Rattle.laws.proofs.Clauses.{clauses}
use Rattle.ledger.proofs.oatlantern_tally_held.Goals as goal

pub returns-in-Some : goal.returns-in-Some
returns-in-Some c = clauses (λ value count_after. record { value = value; count_after = count_after }) (held_told _ c.ask.ensures c.in-Some.is)

pub returns-in-None : goal.returns-in-None
returns-in-None c = clauses (λ value count_after. record { value = value; count_after = count_after }) (held_told _ c.ask.ensures c.in-None.is)

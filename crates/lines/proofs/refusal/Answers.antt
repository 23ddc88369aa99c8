use native.Mathlib.Omega.{arith}
use Rattle.lines.proofs.Lines.{shows_told, shows_longest}
use Rattle.lines.proofs.refusal.Goals as goal

pub returns-in-Nothing : goal.returns-in-Nothing
returns-in-Nothing c = shows_longest _ _ c.in-Nothing.is (omega arith) c.refusal_at.ensures

pub returns-in-Place : goal.returns-in-Place
returns-in-Place c = shows_told _ _ c.in-Place.is c.refusal_at-in-Place.ensures

pub returns-in-PlaceAndSize : goal.returns-in-PlaceAndSize
returns-in-PlaceAndSize c = shows_told _ _ c.in-PlaceAndSize.is c.refusal_with_size.ensures

-- `verdicts::told_of` meets its contract.
use Rattle.verdicts.proofs.Told.{told_by}
use Rattle.verdicts.proofs.told_of.Goals as goal

-- by the answer of `tells`, and the case that it is
pub returns-in-Nothing : goal.returns-in-Nothing
returns-in-Nothing c =
    told_by c.args.cause c.cause_number-number.ensures c.tells.ensures
    c.in-Nothing.is

pub returns-in-Place : goal.returns-in-Place
returns-in-Place c =
    told_by c.args.cause c.cause_number-number.ensures c.tells.ensures
    c.in-Place.is

pub returns-in-PlaceAndSize : goal.returns-in-PlaceAndSize
returns-in-PlaceAndSize c =
    told_by c.args.cause c.cause_number-number.ensures c.tells.ensures
    c.in-PlaceAndSize.is

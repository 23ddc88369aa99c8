use Rattle.listing.proofs.Frames.{said_of_lem}
use Rattle.listing.proofs.said.Goals as goal

pub returns : goal.returns
returns c =
    let a = c.args in said_of_lem a.n a.hearing c.refusal_number-refusal.ensures

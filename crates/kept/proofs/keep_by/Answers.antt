use Rattle.kept.proofs.Returns.{keep_made}
use Rattle.kept.proofs.keep_by.Goals as goal

pub returns : goal.returns
returns c =
    keep_made c.args.walk _ _ c.reach.ensures c.fewer-frames.ensures c.saturating_sub.ensures

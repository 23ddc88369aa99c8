-- `nearest::distance` meets its contract: an entry of 16 bits is the same number at 32.
use Rattle.std.proofs.Common.{◌∙◌, to_z-of_z, w32, SFits}
use mir.Facts.{sfits_widen}
use Rattle.gains.specs.Nearest.{apart}
use Rattle.nearest.proofs.distance.Goals as goal

pub returns : goal.returns
unfolding apart
returns c =
    let x = c.ranges.x in
    let entry = c.ranges.entry in
    let wide : SFits w32 c.args.entry = sfits_widen tt entry in
    c.abs_diff.ensures ∙ simp (c.from.ensures, to_z-of_z)

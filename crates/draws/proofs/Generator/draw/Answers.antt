-- `draws::Generator::draw` meets its contract.
use Rattle.std.proofs.Common.{get_or, pos, w16, SFits, rules}
use Rattle.draws.proofs.Drawing.{drawn}
use Rattle.draws.proofs.Generator.draw.Goals as goal

pub returns : goal.returns
returns c =
    let g = c.args.self in
    let first : SFits w16 (get_or g.kept c.from-k.result (pos 0)) = search rules in
    let second : SFits w16 (get_or g.kept c.from-j.result (pos 0)) = search rules in
    drawn g c.position-first.ensures.value c.position-second.ensures.value c.from-k.ensures c.from-j.ensures first second
    c.moved.ensures c.moved-2.ensures

-- `delays::rank_with` meets its contract, a stretch at a time.
use mathlib.Core.Path.{◌∙◌, ap}
use Rattle.delays.specs.Codes.{rank_found}
use Rattle.delays.proofs.Search.{too_short, first_thirds, quarters, second_thirds, wholes, too_long}
use Rattle.delays.proofs.rank_with.Goals as goal

pub returns-then-delay-lt240 : goal.returns-then-delay-lt240
returns-then-delay-lt240 c = ap rank_found (too_short _ c.if-delay-lt240.true)

pub returns-then-delay-lt312 : goal.returns-then-delay-lt312
returns-then-delay-lt312 c = c.rank_in.ensures ∙ ap rank_found (first_thirds _ c.if-delay-lt240.false c.if-delay-lt312.true)

pub returns-then-delay-lt408 : goal.returns-then-delay-lt408
returns-then-delay-lt408 c =
    c.rank_in-then-delay-lt408.ensures ∙ ap rank_found (quarters _ c.if-delay-lt312.false c.if-delay-lt408.true)

pub returns-then-delay-lt960 : goal.returns-then-delay-lt960
returns-then-delay-lt960 c =
    c.rank_in-then-delay-lt960.ensures ∙ ap rank_found (second_thirds _ c.if-delay-lt408.false c.if-delay-lt960.true)

pub returns-then-delay-lt1776 : goal.returns-then-delay-lt1776
returns-then-delay-lt1776 c =
    c.rank_in-then-delay-lt1776.ensures ∙ ap rank_found (wholes _ c.if-delay-lt960.false c.if-delay-lt1776.true)

pub returns : goal.returns
returns c = ap rank_found (too_long _ c.if-delay-lt1776.false)

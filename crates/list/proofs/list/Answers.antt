-- `list::list` is safe: the text laid is within its buffer.
use mathlib.Core.Path.{◌∙◌, sym}
use lib.Seq.{length-take-le}
use Rattle.listing.proofs.Laws.{text_within}
use Rattle.list.proofs.list.Goals as goal

pub slice_bounds-text-end : goal.slice_bounds-text-end
slice_bounds-text-end g c =
    text_within _ _ _ _ (sym c.in-Ok.is ∙ c.list.ensures.value) c.list.ensures.out_after

pub slice_bounds-write_all-end : goal.slice_bounds-write_all-end
slice_bounds-write_all-end g c =
    sym (length-take-le _ _ (text_within _ _ _ _ (sym c.in-Ok.is ∙ c.list.ensures.value) c.list.ensures.out_after))

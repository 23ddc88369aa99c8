-- `salvager::salvage` is safe: the result is within its buffer.
use mathlib.Core.Path.{sym}
use lib.Seq.{length-take-le}
use Rattle.salvage.proofs.Results.{result_within}
use Rattle.salvager.proofs.salvage.Goals as goal

pub slice_bounds-result-end : goal.slice_bounds-result-end
slice_bounds-result-end g c =
    result_within _ _ _ _ _ c.salvage-salvaged.ensures.value c.salvage-salvaged.ensures.out_after c.length-long.ensures

pub slice_bounds-write_all-end : goal.slice_bounds-write_all-end
slice_bounds-write_all-end g c =
    sym (length-take-le _ _ (result_within _ _ _ _ _ c.salvage-salvaged.ensures.value c.salvage-salvaged.ensures.out_after c.length-long.ensures))

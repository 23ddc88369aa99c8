use mathlib.Core.Path.{ap}
use Rattle.blocks.specs.Frames.{bytes_on}
use Rattle.blocks.specs.declared.Span.{Span}
use Rattle.blocks.proofs.Voices.{told_placed, told_bytes}
use Rattle.voices.proofs.voice_block.Goals as goal

pub slice_bounds-result-count : goal.slice_bounds-result-count
slice_bounds-result-count c = (told_placed _ _ _ c.voice_span-span.ensures).ordered

pub slice_bounds-result-start : goal.slice_bounds-result-start
slice_bounds-result-start c = (told_placed _ _ _ c.voice_span-span.ensures).ordered

pub slice_bounds-result-end : goal.slice_bounds-result-end
slice_bounds-result-end c = (told_placed _ _ _ c.voice_span-span.ensures).within

pub returns : goal.returns
returns c = record {
  result_value = told_bytes _ _ _ c.voice_span-span.ensures;
  ref_ptr_value = ap
      (λ (r : Span). bytes_on c.args.s.ref_ptr r.from) c.voice_span-span.ensures;
}

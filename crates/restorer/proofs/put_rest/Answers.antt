use native.Mathlib.Omega.{arith}
use lib.ListN.{length-take, length-drop}
use Rattle.text.proofs.Laid.{put_length}
use Rattle.restorer.proofs.Puts.{rest_none, rest_put, rest_within}
use Rattle.laws.proofs.Clauses.{clauses}
use Rattle.restorer.proofs.put_rest.Goals as goal

pub returns-then-frames-eq0 : goal.returns-then-frames-eq0
returns-then-frames-eq0 c = clauses (λ value out_after. record { value = value; out_after = out_after }) (rest_none c.args.out.now c.args.end c.args.s.now c.args.at c.args.frames c.requires.end_in_bounds (omega (arith, c.if-frames-eq0.true)))

pub overflow_add-from : goal.overflow_add-from
overflow_add-from c =
    omega (arith, rest_within _ _ _ c.requires.frames_in_bounds c.if-frames-eq0.false, c.requires.s_len_bound)

pub overflow_add-from-2 : goal.overflow_add-from-2
overflow_add-from-2 c = omega (arith, rest_within _ _ _ c.requires.frames_in_bounds c.if-frames-eq0.false, c.requires.s_len_bound)

pub slice_bounds-put_voice-end : goal.slice_bounds-put_voice-end
slice_bounds-put_voice-end c =
    omega (arith, rest_within _ _ _ c.requires.frames_in_bounds c.if-frames-eq0.false)

pub put_voice-requires : goal.put_voice-requires
put_voice-requires c =
    let w = rest_within _ _ _ c.requires.frames_in_bounds c.if-frames-eq0.false in
    record { size_value = simp (length-take, length-drop) (omega (arith, w)); size_le_longest = omega (arith, w, c.requires.s_len_bound) }

pub returns : goal.returns
returns c = clauses (λ value out_after. record { value = value; out_after = out_after }) (rest_put _ _ _ _ _ c.if-frames-eq0.false (c.put_voice.ensures.value, c.put_voice.ensures.out_after))

pub shape_of-out : goal.shape_of-out
shape_of-out c = put_length _ _ _ ((returns c).value, (returns c).out_after)

use mathlib.Core.Path.{◌∙◌, sym}
use native.Mathlib.Omega.{arith}
use lib.ListN.{length-take, length-drop}
use Rattle.restorer.proofs.Puts.{found_voice, laying_start, laying_done, laying_none, laying_on}
use Rattle.laws.proofs.Clauses.{clauses}
use Rattle.restorer.proofs.put_voices.Goals as goal

pub loop-left-init : goal.loop-left-init
loop-left-init c = laying_start _ _ _ _ c.requires.start_in_bounds

pub shape_of-out-in-None : goal.shape_of-out-in-None
shape_of-out-in-None c = c.loop-left.invariant.long

pub returns-in-None : goal.returns-in-None
returns-in-None c = clauses (λ value out_after. record { value = value; out_after = out_after }) (laying_none c.loop-left.invariant (sym c.find.ensures ∙ c.in-None.is))

pub overflow_add-size : goal.overflow_add-size
overflow_add-size c =
    let t = found_voice _ _ _ (sym c.find.ensures ∙ c.in-Some.is) in
    omega (arith, t.fits, c.requires.s_len_bound)

pub overflow_add-first : goal.overflow_add-first
overflow_add-first c =
    let t = found_voice _ _ _ (sym c.find.ensures ∙ c.in-Some.is) in
    omega (arith, t.fits, c.min-kept.ensures, c.requires.s_len_bound)

pub slice_bounds-put_voice-end : goal.slice_bounds-put_voice-end
slice_bounds-put_voice-end c =
    let t = found_voice _ _ _ (sym c.find.ensures ∙ c.in-Some.is) in
    omega (arith, t.fits, c.min-kept.ensures)

pub put_voice-end-requires : goal.put_voice-end-requires
put_voice-end-requires c =
    let t = found_voice _ _ _ (sym c.find.ensures ∙ c.in-Some.is) in
    record { size_value = simp (length-take, length-drop) (omega (arith, t.fits, c.min-kept.ensures)); size_le_longest = omega (arith, t.fits, c.min-kept.ensures, c.requires.s_len_bound) }

pub overflow_add-at : goal.overflow_add-at
overflow_add-at c =
    let t = found_voice _ _ _ (sym c.find.ensures ∙ c.in-Some.is) in
    omega (arith, t.fits, c.requires.s_len_bound)

pub overflow_sub-left : goal.overflow_sub-left
overflow_sub-left c = omega (arith, c.min-kept.ensures)

pub loop-left-smaller : goal.loop-left-smaller
loop-left-smaller c =
    omega (arith, c.min-kept.ensures, c.loop-left-test.true)

pub loop-left-preserved : goal.loop-left-preserved
loop-left-preserved c =
    laying_on c.loop-left.invariant _ _ _ c.loop-left-test.true
    (sym c.find.ensures ∙ c.in-Some.is) c.min-kept.ensures
    (c.put_voice-end.ensures.value, c.put_voice-end.ensures.out_after)

pub shape_of-out : goal.shape_of-out
shape_of-out c = c.loop-left.invariant.long

pub returns : goal.returns
returns c = clauses (λ value out_after. record { value = value; out_after = out_after }) (laying_done c.loop-left.invariant c.loop-left-test.false)

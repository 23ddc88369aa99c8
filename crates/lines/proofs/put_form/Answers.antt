use mathlib.Core.Path.{◌≡◌, ap}
use native.Mathlib.Omega.{arith}
use borrow.Author.Rules.{rules}
use lib.ListN.{length}
use Rattle.text.proofs.Laid.{put_length, put_as}
use Rattle.lines.specs.Forms.{filled_in}
use Rattle.lines.proofs.Forms.{shown_number, shown_byte, laying_start, laying_on, laying_done, all_asked}
use Rattle.laws.proofs.Clauses.{clauses}
use Rattle.lines.proofs.put_form.Goals as goal
use Rattle.lines.proofs.put_form.Goals.{then-c-lt8, else-c-lt8}

pub loop-c-init : goal.loop-c-init
loop-c-init c = laying_start _ _ _ _ c.min-end.ensures

pub loop-c-preserved : goal.loop-c-preserved
loop-c-preserved c =
    let x = c.args.form in
    laying_on c.loop-c.invariant c.loop-c-test.true
    (elim c.if-c-lt8.branch [
      | then-c-lt8 w ↦ shown_number x.numbers _ _ _ w.out-is w.end-is w.if-c-lt8.true (w.put_number-end.ensures.value, w.put_number-end.ensures.out_after)
      | else-c-lt8 w ↦ shown_byte x.numbers _ _ _ w.out-is w.end-is w.if-c-lt8.false (w.put_byte-end.ensures.value, w.put_byte-end.ensures.out_after)
    ])

pub returns : goal.returns
returns c =
    let long : length c.args.form.bytes ≡ 28 = search rules in
    clauses (λ value out_after. record { value = value; out_after = out_after })
    (put_as _ _ _ _
    (ap (filled_in c.args.form.numbers) (all_asked c.args.form.bytes c.args.form.size (omega (arith, c.min-size.ensures))))
    (laying_done c.loop-c.invariant c.loop-c-test.false))

pub shape_of-out : goal.shape_of-out
shape_of-out c = put_length _ _ _ ((returns c).value, (returns c).out_after)

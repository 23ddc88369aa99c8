use borrow.Author.Rules.{rules}
use mir.Facts.{to_z-of_z}
use mir.Syntax.{w32}
use Rattle.laws.proofs.Clauses.{clauses}
use Rattle.text.proofs.Rows.{row_start, row_on, row_done}
use Rattle.decimals.proofs.put_list.Goals as goal

pub loop-x-init : goal.loop-x-init
loop-x-init c = row_start _ _ _ c.min-end.ensures

pub loop-x-preserved : goal.loop-x-preserved
loop-x-preserved c =
    row_on c.loop-x.invariant c.loop-x-test.true (to_z-of_z {w = w32} (search rules))
    (c.put_byte-next.ensures.value, c.put_byte-next.ensures.out_after) (c.put_signed-end.ensures.value, c.put_signed-end.ensures.out_after)

pub returns : goal.returns
returns c = clauses (λ value out_after. record { value = value; out_after = out_after }) (row_done c.loop-x.invariant c.loop-x-test.false)

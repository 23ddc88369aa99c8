-- `pairs::put` meets its contract: by the length of the buffer.
use mathlib.Core.Path.{◌∙◌, ap}
use native.Mathlib.Omega.{arith}
use lib.ListN.{length}
use Rattle.pairs.proofs.Laws.{length_bytes}
use Rattle.pairs.proofs.Whole.{not_put, all_put}
use Rattle.laws.proofs.Clauses.{clauses}
use Rattle.pairs.proofs.put.Goals as goal

pub returns-then-out-ne56 : goal.returns-then-out-ne56
returns-then-out-ne56 c = clauses (λ value out_after. record { value = value; out_after = out_after }) (not_put c.args.r _ (omega arith))

pub shape_of-out : goal.shape_of-out
shape_of-out c =
    let long = ap length c.put_all.ensures ∙ length_bytes _ in
    omega (arith, long)

pub returns : goal.returns
returns c = clauses (λ value out_after. record { value = value; out_after = out_after }) (all_put c.args.r _ (omega arith) c.put_all.ensures)

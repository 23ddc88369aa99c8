-- `codebook::write_code` meets its contract: the answers of Codes.antt, at the code's own numbers.
use native.Mathlib.Omega.{arith}
use Rattle.codebook.proofs.Codes.{refused_length, refused_index, laid}
use Rattle.laws.proofs.Clauses.{clauses}
use Rattle.codebook.proofs.write_code.Goals as goal

pub returns-then-out-ne60 : goal.returns-then-out-ne60
returns-then-out-ne60 c = clauses (λ value out_after. record { value = value; out_after = out_after }) (refused_length c.args.index _ c.if-out-ne60.true)

pub returns-then-index-gt511 : goal.returns-then-index-gt511
returns-then-index-gt511 c = clauses (λ value out_after. record { value = value; out_after = out_after }) (refused_index c.args.index _ c.if-out-ne60.false c.if-index-gt511.true)

pub returns : goal.returns
returns c = clauses (λ value out_after. record { value = value; out_after = out_after }) (laid c.args.index c.args.out.now _ c.if-out-ne60.false (omega arith)
    c.copy_code.ensures)

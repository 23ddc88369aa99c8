-- `record::Record::too_large` meets its contract. The loop's invariant: no field passed has an index that does not fit.
use Rattle.record.proofs.Fields.{Passed}
use Rattle.record.proofs.Record.too_large.Given as goal

abbrev pub invariant-loop-i : goal.invariant-loop-i
invariant-loop-i l = Passed l.indices l.widths l.i

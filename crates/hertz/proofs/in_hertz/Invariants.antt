-- `hertz::in_hertz` meets its contract. The loop's invariant: the bits are as printed, and the indices passed fit.
use Rattle.lsp.proofs.Columns.{Fitting}
use Rattle.hertz.proofs.in_hertz.Given as goal

abbrev pub invariant-loop-i : goal.invariant-loop-i
invariant-loop-i l = Fitting l.bits l.indices l.i

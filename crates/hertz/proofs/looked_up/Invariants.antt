-- `hertz::looked_up` meets its contract. The loop's invariant: the places passed hold Hz.
use Rattle.laws.proofs.Filled.{Filled}
use Rattle.lsp.specs.Table.{hz_at}
use Rattle.hertz.proofs.looked_up.Given as goal

abbrev pub invariant-loop-i : goal.invariant-loop-i
invariant-loop-i l = Filled 0 (hz_at l.indices) 10 l.i l.hz

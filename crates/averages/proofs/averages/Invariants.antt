-- `averages::averages` meets its contract. The loops' invariant: the places passed hold their averages.
use Prim.Native.Nat.{◌+◌, ◌*◌}
use Rattle.lsp.proofs.Weights.{Averaged}
use Rattle.averages.proofs.averages.Given as goal

abbrev pub invariant-loop-n : goal.invariant-loop-n
invariant-loop-n l = Averaged l.previous l.present (10 * l.n) l.eighths

abbrev pub invariant-loop-i : goal.invariant-loop-i
invariant-loop-i l = Averaged l.previous l.present (10 * l.n + l.i) l.eighths

use native.Mathlib.Omega.{arith}
use Rattle.kept.proofs.Returns.{other_kind, voice_left}
use Rattle.kept.proofs.left_in.Goals as goal

pub returns-then-kind-ne2 : goal.returns-then-kind-ne2
returns-then-kind-ne2 c =
    let a = c.args in other_kind a.s.now a.at _ c.from_le_bytes-kind.ensures (λ e. c.if-kind-ne2.true (omega (arith, e)))

pub returns : goal.returns
returns c = let a = c.args in voice_left a.s.now a.at _ c.from_le_bytes-kind.ensures (omega (arith, c.if-kind-ne2.false))

use Rattle.std.proofs.Common.{◌∙◌, ap₂, ℤ, arith, to_z-of_z}
use Rattle.excitation.specs.Excitation.{mixed_of}
use Rattle.excitation.proofs.Mixes.{mixed_all}
use Rattle.exciter.proofs.mix.Goals as goal

pub returns : goal.returns
returns c =
    mixed_all c.loop-k.invariant (omega arith)
    ∙ ap₂ (λ (cg pg : ℤ). mixed_of cg c.args.code.now pg c.args.out.now) (to_z-of_z c.ranges.cg)
    (to_z-of_z c.ranges.pg)

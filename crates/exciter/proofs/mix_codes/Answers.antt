-- `exciter::mix_codes` meets its contract: the two gains, the ternary code, and the mixing of the two codes.
use mathlib.Core.Path.{◌∙◌, refl, ap}
use native.Mathlib.Omega.{arith}
use borrow.Author.Rules.{sfits_of}
use lib.ListN.{length}
use Rattle.gains.specs.Tables.{cg_table, pg_table}
use Rattle.codebook.proofs.Laws.{length_code}
use Rattle.excitation.proofs.Mixes.{code_written, by_indices, mixed_sixty}
use Rattle.exciter.proofs.mix_codes.Goals as goal

pub mix-requires : goal.mix-requires
mix-requires c = (
  ap length (code_written c.args.ci _ c.requires.1 refl c.write_code.ensures.out_after)
      ∙ length_code c.args.ci,
  c.requires.3,
)

pub returns : goal.returns
unfolding cg_table pg_table
returns c =
    c.mix.ensures
    ∙ by_indices c.args.pg c.args.ci c.args.cg (sfits_of c.gain_in-stochastic.type_inv) c.gain_in-stochastic.ensures
    (sfits_of c.gain_in-past.type_inv) c.gain_in-past.ensures
    (code_written c.args.ci _ c.requires.1 refl c.write_code.ensures.out_after)
    c.args.out.now

pub shape_of-out : goal.shape_of-out
shape_of-out c =
    ap length (returns c)
    ∙ omega (arith, mixed_sixty c.args.pg c.args.ci c.args.cg c.args.out.now, c.requires.3)

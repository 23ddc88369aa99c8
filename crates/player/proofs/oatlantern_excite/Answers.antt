-- `player::oatlantern_excite` meets its contract: what the excitation came to, and the register after it.
use Rattle.std.proofs.Common.{◌∙◌, ap, to_z-of_z, w32}
use borrow.Author.Rules.{sfits_of}
use Rattle.verdicts.specs.Verdicts.{refused}
use Rattle.excitation.specs.Outcome.{Outcome, refusal_of}
use Rattle.excitation.specs.declared.Register.{Register}
use Rattle.player.proofs.Told.{told}
use Rattle.player.proofs.oatlantern_excite.Goals as goal

pub returns-in-Ok : goal.returns-in-Ok
returns-in-Ok c =
    record {
      value = ap (λ (o : Outcome). refused (refusal_of o)) c.in-Ok.ensures.value;
      past_after = ap (λ (r : Register). r.elements) c.excite-outcome.ensures.register_after;
      out_after = c.excite-outcome.ensures.out_after;
    }

pub returns-in-Err : goal.returns-in-Err
returns-in-Err c =
    record {
      value =
          told c.in-Err.ensures.value c.refusal_number.ensures
          (to_z-of_z {w = w32} (sfits_of c.minus.type_inv) ∙ c.minus.ensures);
      past_after = ap (λ (r : Register). r.elements) c.excite-outcome.ensures.register_after;
      out_after = c.excite-outcome.ensures.out_after;
    }

-- `record::Record::by_field` meets its contract: the parameters, the subframe indices, SP and SY.
use mathlib.Core.Path.{refl}
use borrow.Author.Rules.{rules}
use Rattle.record.proofs.Listed.{all_listed}
use Rattle.record.proofs.Record.by_field.Goals as goal

pub returns : goal.returns
returns c =
    all_listed c.args.self c.copy_from_slice.ensures.after c.copy_from_slice-2.ensures.after (search rules) (search rules)
    _ refl

-- `reader::to_record` meets its contract: each list of the record is a part of the one by field.
use borrow.Author.Rules.{rules}
use Rattle.frame.proofs.Listed.{record_taken}
use Rattle.reader.proofs.to_record.Goals as goal

pub returns : goal.returns
returns c =
    record_taken c.args.fields (search rules) c.copy_from_slice.ensures.after c.copy_from_slice-2.ensures.after

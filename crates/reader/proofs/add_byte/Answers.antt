use mathlib.Core.Path.{◌∙◌, ap}
use native.Mathlib.Omega.{arith}
use lib.ListN.{length}
use Rattle.frame.proofs.Places.{length_entries}
use Rattle.frame.proofs.Gathered.{gathered_from, gathered_is, turn}
use Rattle.frame.proofs.Gathered.{turn_field, turn_room, byte_begun, byte_done}
use Rattle.reader.proofs.add_byte.Goals as goal

pub loop-q-init : goal.loop-q-init
loop-q-init c =
    byte_begun c.args.n (gathered_from _ _ (omega (arith, c.requires.n_bound)) c.requires.fields_value)

pub bounds-table-from : goal.bounds-table-from
bounds-table-from c =
    let e = ap length c.requires.table_value ∙ length_entries in
    omega (arith, e, c.requires.n_bound)

pub bounds-fields-f : goal.bounds-fields-f
bounds-fields-f c = omega (arith, turn_field _ _ c.requires.table_value c.loop-q.invariant c.requires.n_bound c.loop-q-test.true, c.loop-q.invariant.long)

pub overflow_add-fields : goal.overflow_add-fields
overflow_add-fields c =
    record {
      fits =
          turn_room _ _ c.requires.table_value c.loop-q.invariant c.requires.n_bound
          c.loop-q-test.true;
    }

pub bounds-fields-f-in-loop-q : goal.bounds-fields-f-in-loop-q
bounds-fields-f-in-loop-q c = omega (arith, turn_field _ _ c.requires.table_value c.loop-q.invariant c.requires.n_bound c.loop-q-test.true, c.loop-q.invariant.long)

pub loop-q-preserved : goal.loop-q-preserved
loop-q-preserved c = turn _ _ c.requires.table_value c.loop-q.invariant c.requires.n_bound c.loop-q-test.true

pub returns : goal.returns
returns c =
    gathered_is _ _
    (byte_done c.args.n c.loop-q.q c.loop-q-test.false (omega arith) c.loop-q.invariant)

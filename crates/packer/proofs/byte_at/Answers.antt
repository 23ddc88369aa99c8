use mathlib.Core.Path.{◌∙◌, ap}
use Prim.Native.Nat.{ℕ, ◌+◌, ◌*◌, ◌<◌}
use native.Mathlib.Omega.{arith}
use lib.ListN.{length, get_or}
use Rattle.frame.specs.Frame.{sent}
use Rattle.frame.proofs.Places.{length_entries}
use Rattle.frame.proofs.Packed.{shifted_none, shifted_turn, shifted_byte, shifted_room, byte_shifted}
use Rattle.frame.proofs.Packed.{sent_field, sent_small}
use Rattle.packer.proofs.byte_at.Goals as goal

-- the next place is one of the 144, and its entry names one of the 29
within : (k q : ℕ) → k < 18 → q < 8 → 8 * k + q < 144
within k q h t = omega (arith, h, t)

pub loop-q-init : goal.loop-q-init
loop-q-init c = shifted_none (sent (λ f. get_or c.args.fields.now f 0)) (sent_small _) _

pub bounds-table-from : goal.bounds-table-from
bounds-table-from c =
    let e = ap length c.requires.table_value ∙ length_entries in
    omega (arith, e, c.requires.k_bound)

pub overflow_mul-x : goal.overflow_mul-x
overflow_mul-x c = omega (arith, shifted_room _ _ _ c.loop-q.invariant c.loop-q-test.true)

pub bounds-fields-f : goal.bounds-fields-f
bounds-fields-f c = omega (arith, sent_field c.args.fields.now _ c.requires.table_value _ (within _ _ c.requires.k_bound c.loop-q-test.true), c.requires.fields_len)

pub overflow_add-x : goal.overflow_add-x
overflow_add-x c = omega (arith, shifted_room _ _ _ c.loop-q.invariant c.loop-q-test.true)

pub loop-q-preserved : goal.loop-q-preserved
loop-q-preserved c =
    shifted_turn c.args.fields.now _ c.requires.table_value (within _ _ c.requires.k_bound c.loop-q-test.true)
    c.loop-q.invariant c.loop-q-test.true

pub overflow_cast-result : goal.overflow_cast-result
overflow_cast-result c = omega (arith, shifted_byte _ _ _ c.loop-q.invariant)

pub returns : goal.returns
returns c = byte_shifted _ _ _ c.requires.k_bound c.loop-q.invariant c.loop-q-test.false

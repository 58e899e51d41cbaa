-- `pack` meets its contract: from the last bit to the first. Assumes nothing.
use native.Mathlib.Omega.{arith}
use Prim.Native.Nat.{◌+◌, ◌-◌}
use mathlib.Core.Path.{◌≡◌}
use lib.ListN.{length}
use Rattle.std.proofs.lemmas.Iterator.Adapters.{YieldsList-from_rev_slice}
use Rattle.std.proofs.lemmas.Iterator.Consumers.{YieldsList-turn, YieldsList-end}
use Rattle.std.proofs.lemmas.List.{length_push, length-reverse}
use Rattle.task_writer.proofs.PutLoops.{bits_none, bits_turn, bits_fit}
use Rattle.task_writer.proofs.put_tables.pack.Goals as goal

pub loop-bit-init : goal.loop-bit-init
loop-bit-init c = bits_none c.args.bits.now _ (omega arith)

pub overflow_mul-byte : goal.overflow_mul-byte
overflow_mul-byte c =
    let s = c.args.bits.now in
    let turn = YieldsList-turn (YieldsList-from_rev_slice s cc) c.loop-bit.yielded _ c.loop-bit.yielded_by _ _ c.in-Some.bit c.in-Some.is c.next.ensures.steps in
    let more = bits_turn s (length c.loop-bit.yielded) c.loop-bit.byte c.in-Some.bit.now turn c.loop-bit.invariant in
    omega (arith, more, bits_fit s c.requires.0 c.requires.1 (length s - (length c.loop-bit.yielded + 1)))

pub overflow_add-byte : goal.overflow_add-byte
overflow_add-byte c =
    let s = c.args.bits.now in
    let turn = YieldsList-turn (YieldsList-from_rev_slice s cc) c.loop-bit.yielded _ c.loop-bit.yielded_by _ _ c.in-Some.bit c.in-Some.is c.next.ensures.steps in
    let more = bits_turn s (length c.loop-bit.yielded) c.loop-bit.byte c.in-Some.bit.now turn c.loop-bit.invariant in
    omega (arith, more, bits_fit s c.requires.0 c.requires.1 (length s - (length c.loop-bit.yielded + 1)))

pub loop-bit-preserved : goal.loop-bit-preserved
loop-bit-preserved c =
    let s = c.args.bits.now in
    let turn = YieldsList-turn (YieldsList-from_rev_slice s cc) c.loop-bit.yielded _ c.loop-bit.yielded_by _ _ c.in-Some.bit c.in-Some.is c.next.ensures.steps in
    rw length_push (bits_turn s (length c.loop-bit.yielded) c.loop-bit.byte c.in-Some.bit.now turn c.loop-bit.invariant)

pub returns : goal.returns
returns c =
    let s = c.args.bits.now in
    let end = YieldsList-end (YieldsList-from_rev_slice s cc) c.loop-bit.yielded _ c.loop-bit.yielded_by _ _ c.in-None.is c.next.ensures.steps in
    let z : length s - length c.loop-bit.yielded ≡ 0 = omega (arith, end, length-reverse s) in
    rw z at c.loop-bit.invariant

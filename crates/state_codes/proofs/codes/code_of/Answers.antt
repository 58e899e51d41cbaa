-- `code_of` meets its contract: from the last byte to the first. Assumes nothing.
use native.Mathlib.Omega.{arith}
use Prim.Native.Nat.{◌+◌, ◌-◌}
use mathlib.Core.Path.{◌≡◌}
use lib.ListN.{length}
use Rattle.std.proofs.lemmas.Iterator.Adapters.{YieldsList-from_rev_slice}
use Rattle.std.proofs.lemmas.Iterator.Consumers.{YieldsList-turn, YieldsList-end}
use Rattle.std.proofs.lemmas.List.{length_push, length-reverse}
use Rattle.state_codes.proofs.Coding.{code_none, code_turn, code_fits}
use Rattle.state_codes.proofs.codes.code_of.Goals as goal

pub loop-bit-init : goal.loop-bit-init
loop-bit-init c = code_none c.args.state.now _ (omega arith)

pub overflow_mul-code : goal.overflow_mul-code
overflow_mul-code c = omega (arith, c.loop-bit.invariant, code_fits c.requires.0 c.requires.1 (length c.args.state.now - length c.loop-bit.yielded))

pub overflow_add-code : goal.overflow_add-code
overflow_add-code c =
    let s = c.args.state.now in
    let turn = YieldsList-turn (YieldsList-from_rev_slice s cc) c.loop-bit.yielded _ c.loop-bit.yielded_by _ _ c.in-Some.bit c.in-Some.is c.next.ensures.steps in
    let more = code_turn s (length c.loop-bit.yielded) c.loop-bit.code c.in-Some.bit.now turn c.loop-bit.invariant in
    omega (arith, more, c.from.ensures, code_fits c.requires.0 c.requires.1 (length s - (length c.loop-bit.yielded + 1)))

pub loop-bit-preserved : goal.loop-bit-preserved
loop-bit-preserved c =
    let s = c.args.state.now in
    let turn = YieldsList-turn (YieldsList-from_rev_slice s cc) c.loop-bit.yielded _ c.loop-bit.yielded_by _ _ c.in-Some.bit c.in-Some.is c.next.ensures.steps in
    let more = code_turn s (length c.loop-bit.yielded) c.loop-bit.code c.in-Some.bit.now turn c.loop-bit.invariant in
    rw (c.from.ensures, length_push) more

pub returns : goal.returns
returns c =
    let s = c.args.state.now in
    let end = YieldsList-end (YieldsList-from_rev_slice s cc) c.loop-bit.yielded _ c.loop-bit.yielded_by _ _ c.in-None.is c.next.ensures.steps in
    let z : length s - length c.loop-bit.yielded ≡ 0 = omega (arith, end, length-reverse s) in
    rw z at c.loop-bit.invariant

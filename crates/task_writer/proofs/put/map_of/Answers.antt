-- `map_of` meets its contract: the bit map of fields. Assumes nothing.
use native.Mathlib.Omega.{arith}
use Prim.Native.Nat.{ℕ, ◌+◌, ◌-◌, ◌*◌}
use mathlib.Core.Path.{ap, ◌∙◌}
use lib.ListN.{length, get_or}
use Rattle.task_writer.proofs.Puts.{bit_is, map_none, map_turn, map_fits}
use Rattle.task_writer.proofs.put.map_of.Goals as goal

pub loop-i-init : goal.loop-i-init
loop-i-init c = map_none c.args.defaults.now c.args.fields.now (length c.args.fields.now) (omega arith)

pub overflow_mul-map : goal.overflow_mul-map
overflow_mul-map c =
    omega (arith, c.loop-i.invariant, map_fits c.args.defaults.now c.args.fields.now c.loop-i.i (omega arith))

pub overflow_add-map : goal.overflow_add-map
overflow_add-map c =
    let ds = c.args.defaults.now in
    let ws = c.args.fields.now in
    let i = c.loop-i.i in
    let more = map_turn ds ws i c.loop-i.map c.loop-i-test.true (omega arith) (omega arith) c.loop-i.invariant in
    omega (arith, more, c.from.ensures, bit_is (get_or ds (i - 1) 0) (get_or ws (i - 1) 0), map_fits ds ws (i - 1))

pub loop-i-preserved : goal.loop-i-preserved
loop-i-preserved c =
    let ds = c.args.defaults.now in
    let ws = c.args.fields.now in
    let i = c.loop-i.i in
    ap (λ (x : ℕ). 2 * c.loop-i.map + x) (c.from.ensures ∙ bit_is (get_or ds (i - 1) 0) (get_or ws (i - 1) 0))
    ∙ map_turn ds ws i c.loop-i.map c.loop-i-test.true (omega arith) (omega arith) c.loop-i.invariant

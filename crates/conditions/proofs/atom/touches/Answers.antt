-- `touches` meets its contract: whether an effect's row is the target's atom itself. Assumes nothing.
use Rattle.task.specs.Table.{effect_kind}
use Rattle.conditions.proofs.Atoms.{touch_other, touch_clear, touch_set}
use Rattle.conditions.proofs.atom.touches.Goals as goal

pub returns-then-w-t : goal.returns-then-w-t
returns-then-w-t c =
    touch_other c.args.t.clear c.args.t.variable c.args.w.a (effect_kind c.args.w.kind) c.if-w-t.true

pub returns-then-t : goal.returns-then-t
returns-then-t c = rw c.if-t.true (touch_clear c.args.t.variable c.args.w.a c.args.w.kind c.if-w-t.false)

pub returns-else-t : goal.returns-else-t
returns-else-t c = rw c.if-t.false (touch_set c.args.t.variable c.args.w.a c.args.w.kind c.if-w-t.false)

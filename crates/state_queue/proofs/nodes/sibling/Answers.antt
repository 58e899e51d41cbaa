-- `sibling` meets its contract: the other child of the node above. Assumes nothing.
use native.Mathlib.Omega.{arith}
use Prim.Native.Nat.{◌+◌, ◌-◌}
use Rattle.state_queue.specs.Inner.Queue.{right_of, left_of}
use Rattle.state_queue.proofs.nodes.sibling.Goals as goal

pub returns-then-node-eq0 : goal.returns-then-node-eq0
returns-then-node-eq0 c = right_of (c.args.node + 1) (omega (arith, c.if-node-eq0.true)) (omega (arith, c.if-node-eq0.true))

pub returns-else-node-eq0 : goal.returns-else-node-eq0
returns-else-node-eq0 c = left_of (c.args.node - 1) (omega (arith, c.if-node-eq0.false)) (omega (arith, c.if-node-eq0.false))

-- `set_nodes` meets its contract: from the last node to the first, each is set from its children. Assumes nothing.
use Prim.Native.Nat.{◌<◌, ◌-◌}
use native.Mathlib.Omega.{arith}
use Rattle.state_queue.proofs.Playing.{roomy_on, better_chosen, may_be_set, set_playing}
use Rattle.state_queue.proofs.nodes.set_nodes.Goals as goal

pub set_node-requires : goal.set_node-requires
set_node-requires c =
    let at-loop = c.loop-node in
    let some : 0 < at-loop.node - 1 = omega arith in
    let inner : at-loop.node - 1 < c.args.n = omega arith in
    (roomy_on c.requires at-loop.invariant.long, may_be_set at-loop.invariant some inner (λ c l b. omega arith))

pub loop-node-preserved : goal.loop-node-preserved
loop-node-preserved c =
    let at-loop = c.loop-node in
    let some : 0 < at-loop.node - 1 = omega arith in
    let inner : at-loop.node - 1 < c.args.n = omega arith in
    set_playing at-loop.invariant some inner (λ c l b. omega arith) (roomy_on c.requires at-loop.invariant.long) (better_chosen _ _ _)
    c.set_node.ensures
    (λ c x ne. omega arith)

-- `set_nodes` meets its contract: from the last node to the first, each is set from its children. Assumes nothing.
use Prim.Native.Nat.{◌≤◌}
use Rattle.state_queue.proofs.Playing.{Playing}
use Rattle.state_queue.proofs.nodes.set_nodes.Given as goal

abbrev pub invariant-loop-node : goal.invariant-loop-node
invariant-loop-node l = Playing l.n l.initial.words l.words (λ i. l.node ≤ i)

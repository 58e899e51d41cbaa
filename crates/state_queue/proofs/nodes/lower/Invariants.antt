-- `lower` meets its contract: the nodes over a state, from the lowest on. Assumes nothing.
use Rattle.state_queue.proofs.Lowering.{Lowering}
use Rattle.state_queue.proofs.nodes.lower.Given as goal

abbrev pub invariant-loop-node : goal.invariant-loop-node
invariant-loop-node l = Lowering l.n l.initial.words l.words l.first l.first_key l.node

abbrev pub decreases-loop-node : goal.decreases-loop-node
decreases-loop-node l = l.node

-- `raise` meets its contract: the state goes up as far as it comes first. Assumes nothing.
use Rattle.state_queue.proofs.Raising.{Raising}
use Rattle.state_queue.proofs.nodes.raise.Given as goal

abbrev pub invariant-loop-node : goal.invariant-loop-node
invariant-loop-node l = Raising l.n l.initial.words l.words l.state l.node

abbrev pub decreases-loop-node : goal.decreases-loop-node
decreases-loop-node l = l.node

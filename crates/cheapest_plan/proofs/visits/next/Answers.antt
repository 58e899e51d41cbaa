-- `next` meets its contract: the first state of the queue. Assumes nothing.
use native.Mathlib.Omega.{arith}
use Rattle.state_queue.proofs.Changes.{root_state}
use Rattle.cheapest_plan.proofs.visits.next.Goals as goal

pub offset_bounds-words-s : goal.offset_bounds-words-s
offset_bounds-words-s c =
    omega (arith, c.requires.0, c.winner-s.ensures, root_state c.requires.1 c.requires.0.some)

pub bounds-words-s : goal.bounds-words-s
bounds-words-s c =
    omega (arith, c.requires.0, c.winner-s.ensures, root_state c.requires.1 c.requires.0.some)

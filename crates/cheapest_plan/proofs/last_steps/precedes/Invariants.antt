-- `precedes` meets its contract: both lists are walked back until their fronts are the same. Assumes nothing.
use Rattle.cheapest_plan.specs.Inner.Tables.{Comparable}
use Rattle.cheapest_plan.proofs.Comparing.{steps_to, Parted}
use Rattle.cheapest_plan.proofs.last_steps.precedes.Given as goal

abbrev pub invariant-loop-x : goal.invariant-loop-x
invariant-loop-x l = (h : Comparable l.n l.words l.first l.second) → Parted h l.x l.y

abbrev pub decreases-loop-x : goal.decreases-loop-x
decreases-loop-x l = steps_to l.words l.n l.x

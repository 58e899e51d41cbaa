-- `best_end` meets its contract: state by state. Assumes nothing.
use mathlib.Core.Path.{◌≡◌}
use lib.ListN.{length}
use Rattle.task.specs.Lending.{lent_tables}
use Rattle.cheapest_plan.specs.Inner.Visits.{EndReady}
use Rattle.cheapest_plan.proofs.Ending.{Best}
use Rattle.cheapest_plan.proofs.ends.best_end.Given as goal

abbrev pub invariant-loop-t : goal.invariant-loop-t
invariant-loop-t l =
    (length l.state ≡ length l.initial.state)
    × (length l.scratch ≡ length l.initial.scratch)
    × ((v : EndReady (lent_tables l.tables) l.n l.first l.words) → Best v l.t l.end)

-- `search` meets its contract: the first state of the queue is visited, until none is left or it is a goal state. Assumes nothing.
use mathlib.Core.Path.{◌≡◌}
use lib.ListN.{length}
use Rattle.task.specs.Lending.{lent_tables}
use Rattle.cheapest_plan.specs.Inner.Visits.{Known, Searchable}
use Rattle.cheapest_plan.proofs.Rounds.{untaken}
use Rattle.cheapest_plan.proofs.visits.search.Given as goal

abbrev pub invariant-loop-s : goal.invariant-loop-s
invariant-loop-s l =
    (length l.state ≡ length l.initial.state)
    × (length l.words ≡ length l.initial.words)
    × (length l.scratch ≡ length l.initial.scratch)
    × ((v : Searchable (lent_tables l.tables) l.n l.start) → Known v.t l.n l.words)
    × (length l.masks ≡ 4096)

abbrev pub decreases-loop-s : goal.decreases-loop-s
decreases-loop-s l = untaken l.words l.n

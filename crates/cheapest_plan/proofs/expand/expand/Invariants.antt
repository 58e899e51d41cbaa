-- `expand` meets its contract: all operators, upwards. Assumes nothing.
use mathlib.Core.Path.{◌≡◌}
use lib.ListN.{length}
use Rattle.cheapest_plan.specs.Inner.Tables.{Zeros}
use Rattle.cheapest_plan.specs.Inner.Visits.{StageOf, SteppedTo, NotedTo}
use Rattle.cheapest_plan.proofs.expand.expand.Given as goal

abbrev pub invariant-loop-o : goal.invariant-loop-o
invariant-loop-o l =
    (length l.words ≡ length l.initial.words)
    × Zeros l.n l.initial.words l.words
    × ((h : StageOf l.n l.origin) → SteppedTo h l.initial.words 0 → NotedTo h l.words l.notes l.o)
    × (length l.notes ≡ 1024)

-- `write_plan` meets its contract: the list goes to its place from its end. Assumes nothing.
use Rattle.cheapest_plan.specs.Inner.Visits.{Writable}
use Rattle.cheapest_plan.proofs.Backwards.{Back, Aside}
use Rattle.cheapest_plan.proofs.writing.write_plan.Given as goal

abbrev pub invariant-loop-k : goal.invariant-loop-k
invariant-loop-k l =
    Aside l.k l.steps l.initial.plan l.plan × ((h : Writable l.n l.words l.state l.steps) → Back h l.k l.s l.plan)

-- `run_ready` goes on as the plain run does, each turn and each end by a law of Running. Assumes nothing.
use mathlib.Core.Path.{◌≡◌}
use Rattle.task.specs.Lending.{lent_tables}
use Rattle.task.specs.Table.{task_of}
use Rattle.plan.proofs.Running.{Goes}
use Rattle.plan.proofs.runs.run_ready.Given as goal

abbrev pub invariant-loop-number : goal.invariant-loop-number
invariant-loop-number l =
    (l.steps ≡ l.number-index)
    × Goes l.tables.head (task_of (lent_tables l.tables)) l.initial.state l.sequence l.steps l.cost l.state

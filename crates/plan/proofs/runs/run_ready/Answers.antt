-- `run_ready` goes on as the plain run does, each turn and each end by a law of Running. Assumes nothing.
use native.Mathlib.Omega.{arith}
use mathlib.Core.Path.{refl, ◌∙◌}
use Rattle.task.proofs.Refusals.{number_some}
use Rattle.operator_step.proofs.Taking.{valuable, goal_told, ready_again}
use Rattle.plan.proofs.Running.{starts, one_more, after_ready, stopped_run, ended_run}
use Rattle.plan.proofs.runs.run_ready.Goals as goal

pub loop-number-init : goal.loop-number-init
loop-number-init c = (refl, starts c.requires.ready.state)

pub holds-there-requires : goal.holds-there-requires
holds-there-requires c =
    let g = c.loop-number.invariant in
    let here = rw (← g.0) at c.in-Err.ensures.takes in
    valuable
    (ready_again c.requires.ready (after_ready g.1 (omega arith) here) (c.take.auto.scratch ∙ c.loop-number.auto.scratch))
    c.requires.ready.tables.goal

pub returns-in-Err : goal.returns-in-Err
returns-in-Err c =
    let g = c.loop-number.invariant in
    let here = rw (← g.0) at c.in-Err.ensures.takes in
    stopped_run g.1 (omega arith) here (number_some c.in-Err.number)
    (c.holds-there.ensures.value ∙ goal_told c.requires.ready (after_ready g.1 (omega arith) here))

pub loop-number-preserved : goal.loop-number-preserved
loop-number-preserved c =
    let g = c.loop-number.invariant in
    let here = rw (← g.0) at c.in-Ok.ensures.takes in
    (omega arith, rw c.from-cost.ensures (one_more g.1 (omega arith) here refl))

pub returns : goal.returns
returns c =
    let g = c.loop-number.invariant in
    ended_run g.1 (omega arith) (c.holds-reached.ensures.value ∙ goal_told c.requires.ready g.1.state)

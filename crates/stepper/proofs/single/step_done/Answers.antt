-- `step_done` tells the plain run of one number, each way out by a law of Calls. Assumes nothing.
use mathlib.Core.Path.{refl, sym, ◌∙◌}
use Rattle.task.proofs.Refusals.{number_some}
use Rattle.operator_step.proofs.Taking.{valuable, goal_told, ready_again, refused}
use Rattle.operator_step.proofs.Going.{taken_ready}
use Rattle.stepper.proofs.Refusing.{ready}
use Rattle.stepper.proofs.Calls.{step_refuses, step_stopped, step_finished}
use Rattle.stepper.proofs.single.step_done.Goals as goal

pub returns-in_err-refused_early : goal.returns-in_err-refused_early
returns-in_err-refused_early c =
    let e = c.in_err-refused_early.field-0.0 in
    rw (refused c.from_residual.result e c.from_residual.ensures.1)
    (step_refuses _ _ _ _ _ c.in_err-refused_early.ensures (number_some e))

pub take-requires : goal.take-requires
take-requires c = ready _ _ _ (sym c.in_ok-refused_early.ensures)

pub returns-in_err-charge : goal.returns-in_err-charge
returns-in_err-charge c =
    let e = c.in_err-charge.field-0.0 in
    rw (refused c.from_residual-in_err-charge.result e c.from_residual-in_err-charge.ensures.1)
    (step_stopped _ _ _ _ c.in_ok-refused_early.ensures c.in_err-charge.ensures.takes (number_some e))

pub holds-requires : goal.holds-requires
holds-requires c =
    let r = ready _ _ _ (sym c.in_ok-refused_early.ensures) in
    valuable (ready_again r (taken_ready c.in_ok-charge.ensures.takes r.state) c.take.auto.scratch) r.tables.goal

pub returns : goal.returns
returns c =
    let r = ready _ _ _ (sym c.in_ok-refused_early.ensures) in
    rw c.from.ensures
    (step_finished _ _ _ _ c.in_ok-refused_early.ensures c.in_ok-charge.ensures.takes refl
    (c.holds.ensures.value ∙ goal_told r (taken_ready c.in_ok-charge.ensures.takes r.state)))

-- `refused_run` gives the first number in order, each way out by a law of Refusing. Assumes nothing.
use native.Mathlib.Omega.{arith}
use Rattle.task.proofs.Refusals.{number_some}
use Rattle.task.proofs.Told.{returned}
use Rattle.plan.proofs.Refusing.{run_refused_early, run_not_refused}
use Rattle.plan.proofs.refusals.refused_run.Goals as goal

pub returns-in_err-refused_early : goal.returns-in_err-refused_early
returns-in_err-refused_early c =
    let e = c.in_err-refused_early.field-0.0 in
    returned c.from_residual.result e _ c.from_residual.ensures.1
    (run_refused_early _ _ _ _ _ c.in_err-refused_early.ensures (number_some e))

pub returns : goal.returns
returns c = run_not_refused _ _ _ _ c.in_ok-refused_early.ensures (omega arith)

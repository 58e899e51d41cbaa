-- `refused_early` gives the first number in order, each way out by a law of Refusing. Assumes nothing.
use Rattle.task.proofs.Refusals.{number_some}
use Rattle.task.proofs.Told.{returned}
use Rattle.stepper.proofs.Refusing.{refused_tables, refused_length, refused-bits, refused-room, not_refused}
use Rattle.stepper.proofs.refusals.refused_early.Goals as goal
use Rattle.stepper.proofs.refusals.refused_early.Goals.{then-state-head-via-then-state-head, then-state-head-via-else-state-head+then-not-bits}

pub returns-in_err-check : goal.returns-in_err-check
returns-in_err-check c =
    let e = c.in_err-check.field-0.0 in
    returned c.from_residual.result e _ c.from_residual.ensures.1
    (refused_tables _ _ _ _ c.in_err-check.ensures (number_some e))

pub returns-then-state-head : goal.returns-then-state-head
returns-then-state-head c =
    elim c.then-state-head.branch [
      | then-state-head-via-then-state-head w ↦ refused_length _ _ _ c.in_ok-check.ensures w.if-state-head.true
      | then-state-head-via-else-state-head+then-not-bits w ↦
          refused-bits _ _ _ c.in_ok-check.ensures w.if-state-head.false w.bits.ensures w.if-not-bits.true
    ]

pub returns-then-scratch-head : goal.returns-then-scratch-head
returns-then-scratch-head c =
    refused-room _ _ _ c.in_ok-check.ensures c.if-state-head.false c.bits.ensures c.if-not-bits.false c.if-scratch-head.true

pub returns : goal.returns
returns c =
    not_refused _ _ _ c.in_ok-check.ensures c.if-state-head.false c.bits.ensures c.if-not-bits.false c.if-scratch-head.false

-- `refused_run` meets its contract: the first in order, 16, 19, 20. Assumes nothing.
use Rattle.task.proofs.Refusals.{number_some}
use Rattle.task.proofs.Told.{returned}
use Rattle.layouts.proofs.RunWays.{refused_16, refused_19, refused_20}
use Rattle.layouts.proofs.numbers.refused_run.Goals as goal

pub returns-in_err-refuse_unless : goal.returns-in_err-refuse_unless
returns-in_err-refuse_unless c =
    let a = c.args in
    let e = c.in_err-refuse_unless.field-0.0 in
    returned c.from_residual.result e _ c.from_residual.ensures.1
    (refused_16 a.variables a.state.now a.sequence.now a.room c.state_kept.ensures c.in_err-refuse_unless.ensures (number_some e))

pub returns-in_err-refuse_unless-2 : goal.returns-in_err-refuse_unless-2
returns-in_err-refuse_unless-2 c =
    let a = c.args in
    let e = c.in_err-refuse_unless-2.field-0.0 in
    returned c.from_residual-in_err-refuse_unless-2.result e _ c.from_residual-in_err-refuse_unless-2.ensures.1
    (refused_19 a.variables a.state.now a.sequence.now a.room c.state_kept.ensures c.in_ok-refuse_unless.ensures c.sequence_kept.ensures
    c.in_err-refuse_unless-2.ensures (number_some e))

pub returns : goal.returns
returns c =
    let a = c.args in
    refused_20 a.variables a.state.now a.sequence.now a.room c.state_kept.ensures c.in_ok-refuse_unless.ensures c.sequence_kept.ensures
    c.in_ok-refuse_unless-2.ensures c.refuse_unless-3.ensures

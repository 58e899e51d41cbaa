-- `take_batch` meets its contract: a batch begins, and its operators are taken in order. Assumes nothing.
use native.Mathlib.Omega.{arith}
use Rattle.compile_parts.proofs.Batched.{batch_asks, taking_begins, operator_asks, taking-next, taking-stops, taking-ends}
use Rattle.compile_parts.proofs.batch.take_batch.Goals as goal

pub next_batch-end-requires : goal.next_batch-end-requires
next_batch-end-requires c = batch_asks c.requires

pub loop-init : goal.loop-init
loop-init c = taking_begins c.requires c.next_batch-end.ensures

pub take_operator-requires : goal.take_operator-requires
take_operator-requires c = operator_asks c.requires c.next_batch-end.ensures.most (omega arith) c.loop.invariant

pub returns-in_err-at : goal.returns-in_err-at
returns-in_err-at c =
    taking-stops c.requires c.next_batch-end.ensures.most (omega arith) c.loop.invariant c.in_err-at.ensures.same c.from_residual.result c.from_residual.ensures.0
    (omega arith) c.in_err-at.ensures.took

pub loop-preserved : goal.loop-preserved
loop-preserved c =
    taking-next c.requires c.next_batch-end.ensures.most (omega arith) c.loop.invariant c.in_ok-at.ensures.same _ c.in_ok-at.ensures.took c.in_ok-at.ensures.leaves
    c.take_operator.auto.records

pub returns : goal.returns
returns c = taking-ends c.next_batch-end.ensures.more c.next_batch-end.ensures.most (omega arith) c.loop.invariant

-- `check_rows` meets its contract: the first number among the first `count` rows of a table. Assumes nothing.
use native.Mathlib.Omega.{arith}
use Rattle.task.specs.Refused.{number_of}
use Rattle.task.proofs.Bounded.{first_none, first_more, first_stops, first_ends}
use Rattle.task.proofs.Refusals.{number_some}
use Rattle.task.proofs.Stores.{row_there}
use Rattle.task.proofs.Told.{returned}
use Rattle.finite_domain.proofs.Ways.{finite_row_tested}
use Rattle.finite_domain.proofs.rows.check_rows.Goals as goal

pub loop-i-init : goal.loop-i-init
loop-i-init c = first_none _

pub row_at-row-requires : goal.row_at-row-requires
row_at-row-requires c = row_there c.args.table c.loop-i-test.true c.requires.1

pub returns-in_err-check_row : goal.returns-in_err-check_row
returns-in_err-check_row c =
    let a = c.args in
    let t = a.tables.now in
    let e = c.in_err-check_row.field-0.0 in
    let told = finite_row_tested a.table t.head t.counts.now a.words.now c.loop-i.i c.row_at-row.ensures c.in_err-check_row.ensures in
    returned c.from_residual.result e _ c.from_residual.ensures.1
    (first_stops _ _ _ (number_of e) c.loop-i.invariant c.loop-i-test.true told (number_some e))

pub loop-i-preserved : goal.loop-i-preserved
loop-i-preserved c =
    let a = c.args in
    let t = a.tables.now in
    first_more _ _ c.loop-i.invariant
    (finite_row_tested a.table t.head t.counts.now a.words.now c.loop-i.i c.row_at-row.ensures c.in_ok-check_row.ensures)

pub returns : goal.returns
returns c = first_ends _ _ _ (omega arith) (omega arith) c.loop-i.invariant

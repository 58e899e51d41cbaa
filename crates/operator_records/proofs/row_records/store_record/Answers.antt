-- `store_record` meets its contract: the record's words in the row's place, or nothing where the table does not hold it. Assumes nothing.
use native.Mathlib.Omega.{arith}
use mathlib.Core.Path.{◌∙◌}
use Rattle.task.specs.Table.{operator_width}
use Rattle.task.proofs.Refusals.{row_fits, row_past}
use Rattle.operator_records.proofs.Rows.{stored_inside, stored_outside}
use Rattle.operator_records.proofs.row_records.store_record.Goals as goal

pub returns-then-number-operators : goal.returns-then-number-operators
returns-then-number-operators c =
    let a = c.args in
    let inside = row_fits operator_width _ a.number c.if-number-operators.true in
    c.store_operator.ensures ∙ stored_inside a.operators.now a.number a.row inside

pub returns-else-number-operators : goal.returns-else-number-operators
returns-else-number-operators c =
    let a = c.args in
    stored_outside _ a.number a.row (row_past operator_width _ a.number (omega arith) c.if-number-operators.false)

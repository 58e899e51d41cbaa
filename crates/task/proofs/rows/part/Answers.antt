-- `part` meets its contract: a row, or the empty part where the table does not hold all of it. Assumes nothing.
use native.Mathlib.Omega.{arith}
use Rattle.task.proofs.Refusals.{row_fits, row_past, row_inside, row_outside}
use Rattle.task.proofs.rows.part.Goals as goal

pub overflow_mul-start : goal.overflow_mul-start
overflow_mul-start c =
    omega (arith, row_fits c.args.width _ c.args.number c.if-number-table.true)

pub overflow_add-end : goal.overflow_add-end
overflow_add-end c =
    omega (arith, row_fits c.args.width _ c.args.number c.if-number-table.true)

pub offset_bounds-table-start : goal.offset_bounds-table-start
offset_bounds-table-start c =
    omega (arith, row_fits c.args.width _ c.args.number c.if-number-table.true)

pub slice_bounds-result-end : goal.slice_bounds-result-end
slice_bounds-result-end c =
    omega (arith, row_fits c.args.width _ c.args.number c.if-number-table.true)

pub returns-then-number-table : goal.returns-then-number-table
returns-then-number-table c =
    row_inside _ _ _ (row_fits c.args.width _ c.args.number c.if-number-table.true)

pub returns-else-number-table : goal.returns-else-number-table
returns-else-number-table c =
    row_outside _ _ _ (row_past c.args.width _ c.args.number c.requires c.if-number-table.false)

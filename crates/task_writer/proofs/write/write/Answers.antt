-- `write` meets its contract: writes the file of lent tables. Assumes nothing.
use mathlib.Core.Path.{sym}
use Rattle.task.specs.Lending.{lent_tables}
use Rattle.task_writer.proofs.WriteWays.{write_in, not_checked, too_long, fits}
use Rattle.task_writer.proofs.write.write.Goals as goal

pub returns-in_err-check : goal.returns-in_err-check
returns-in_err-check c =
    not_checked (lent_tables c.args.tables.now) c.args.out.now c.from_residual.result c.in_err-check.field-0.0
    (c.fill.ensures.after (λ y h. h)) c.from_residual.ensures.1 c.in_err-check.ensures

pub put_task-end-requires : goal.put_task-end-requires
put_task-end-requires c = write_in (lent_tables c.args.tables.now) (sym c.in_ok-check.ensures)

pub returns-then-out-end : goal.returns-then-out-end
returns-then-out-end c =
    too_long (lent_tables c.args.tables.now) c.args.out.now (c.fill.ensures.after (λ y h. h)) (sym c.in_ok-check.ensures)
    c.put_task-end.ensures c.if-out-end.true (c.fill-then-out-end.ensures.after (λ y h. h))

pub returns : goal.returns
returns c =
    fits (lent_tables c.args.tables.now) c.args.out.now (c.fill.ensures.after (λ y h. h)) (sym c.in_ok-check.ensures)
    c.put_task-end.ensures c.if-out-end.false

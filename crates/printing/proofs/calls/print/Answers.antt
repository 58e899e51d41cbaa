-- `print` meets its contract: the lines of a task, if its tables pass: otherwise their number; 20 if `out` is shorter than the lines. Assumes
-- nothing.
use mathlib.Core.Path.{refl, sym}
use Rattle.std.specs.Prelude.{Err}
use lib.ListN.{length}
use Rattle.task.specs.Lending.{lent_tables}
use Rattle.printing.specs.Printing.{print_answered}
use Rattle.printing.proofs.Settled.{printing_refused, printing_passed}
use Rattle.printing.proofs.calls.print.Goals as goal

pub returns-in-Err : goal.returns-in-Err
returns-in-Err c =
    printing_refused (lent_tables c.args.tables.now) (length c.args.out.now) (Err c.in-Err.refusal) c.in-Err.refusal refl
    c.in-Err.ensures (c.fill.ensures.after (λ y h. h))

pub returns : goal.returns
returns c =
    printing_passed (lent_tables c.args.tables.now) (length c.args.out.now) (print_answered c.settled.result) (sym c.in_default.ensures)
    refl (c.settled.ensures _ _ 276000 c.task_lines-size.ensures)

-- `task_lines` meets its contract: all lines of tables that pass the check. Assumes nothing.
use native.Mathlib.Omega.{arith}
use Rattle.task.specs.Lending.{lent_tables}
use Rattle.printing.proofs.Puts.{then_put, put_as}
use Rattle.printing.proofs.Texts.{lines_of_lent}
use Rattle.printing.proofs.Ready.{long_tables, front_ready, tables_ready}
use Rattle.printing.proofs.lines.task_lines.Goals as goal

pub front-next-requires : goal.front-next-requires
front-next-requires c = front_ready (lent_tables c.args.tables.now) c.requires

pub row_tables-requires : goal.row_tables-requires
row_tables-requires c =
    tables_ready (lent_tables c.args.tables.now) c.requires c.front-next.result (omega arith)

pub returns : goal.returns
returns c =
    let l = lent_tables c.args.tables.now in
    put_as (then_put c.front-next.ensures c.row_tables.ensures) (lines_of_lent l (long_tables l c.requires)) (omega arith)

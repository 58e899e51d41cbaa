-- `put_rows` meets its contract: the first `count` rows of a table. Assumes nothing.
use Rattle.task_writer.specs.Inner.Putting.{rows_bytes}
use Rattle.task_writer.proofs.PutLoops.{PutDone}
use Rattle.task_writer.proofs.put_tables.put_rows.Given as goal

abbrev pub invariant-loop-i : goal.invariant-loop-i
invariant-loop-i l = PutDone (rows_bytes l.table l.words) l.at l.initial.out l.out l.i l.next

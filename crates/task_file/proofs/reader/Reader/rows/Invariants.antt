-- `rows` meets its contract: so many rows of a table, as `words`. Assumes nothing.
use Rattle.task_file.proofs.Loops.{RowsDone}
use Rattle.task_file.proofs.reader.Reader.rows.Given as goal

abbrev pub invariant-loop-i : goal.invariant-loop-i
invariant-loop-i l = RowsDone l.table l.head l.initial.self l.words l.self l.i

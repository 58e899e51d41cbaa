-- `put_rows` meets its contract: the first `count` rows of a table. Assumes nothing.
use Rattle.task.specs.Inner.Tables.{words_at}
use Rattle.task_writer.specs.Inner.Putting.{rows_bytes}
use Rattle.task_writer.proofs.PutLoops.{put_begin, put_row_more, rows_none_put, rows_more_put, row_bytes_length}
use Rattle.task_writer.proofs.put_tables.put_rows.Goals as goal

pub loop-i-init : goal.loop-i-init
loop-i-init c =
    let a = c.args in put_begin (rows_bytes a.table a.words.now) a.at a.out.now (rows_none_put a.table a.words.now)

pub loop-i-preserved : goal.loop-i-preserved
loop-i-preserved c =
    let a = c.args in
    let at = c.loop-i in
    let r = words_at a.table a.words.now at.i in
    put_row_more (rows_bytes a.table a.words.now) a.at a.out.now at.out at.i at.next at.invariant
    (rw c.row_at-row.ensures at c.put_row-next.ensures) (row_bytes_length a.table r) (rows_more_put a.table a.words.now at.i)

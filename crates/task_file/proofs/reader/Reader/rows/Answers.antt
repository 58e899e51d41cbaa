-- `rows` meets its contract: so many rows of a table, as `words`. Assumes nothing.
use Rattle.std.proofs.Common.{sym, ap, ◌∙◌, arith}
use Rattle.task_file.specs.Inner.Answers.{refused_row}
use Rattle.task_file.proofs.Loops.{rows_begin, row_lost, row_more}
use Rattle.task_file.proofs.reader.Reader.rows.Goals as goal

pub loop-i-init : goal.loop-i-init
loop-i-init c = let a = c.args in rows_begin a.table a.head a.self.now a.words.now

pub returns-in_default : goal.returns-in_default
returns-in_default c =
    let a = c.args in let l = c.loop-i in
    rw (c.refused.ensures ∙ ap refused_row c.in_default.is)
    (sym (row_lost a.table a.head a.count a.self.now l.words l.self l.i l.invariant c.loop-i-test.true (sym c.in_default.ensures)))

pub loop-i-preserved : goal.loop-i-preserved
loop-i-preserved c =
    let a = c.args in let l = c.loop-i in
    rw c.store_row.ensures (row_more a.table a.head a.count a.self.now l.words l.self l.i l.invariant (omega (arith, c.requires)) _ c.loop-i-test.true (sym c.in-Words.ensures))

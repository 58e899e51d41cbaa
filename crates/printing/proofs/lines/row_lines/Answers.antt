-- `row_lines` meets its contract: lines f, e or o, the rows of a table by its letter. Assumes nothing.
use native.Mathlib.Omega.{arith}
use native.Mathlib.Nat.{zero-add}
use mathlib.Core.Path.{sym}
use Rattle.printing.specs.Inner.Put.{listed_at}
use Rattle.printing.proofs.Texts.{rows_none, three_put, four_put, rows_more}
use Rattle.printing.proofs.lines.row_lines.Goals as goal
use Rattle.printing.proofs.lines.row_lines.Goals.{in-Formulas, in-Operators}

pub loop-i-init : goal.loop-i-init
loop-i-init c =
    let a = c.args in rows_none a.letter 0 (listed_at a.table a.words.now) a.out.now a.at

pub loop-i-preserved : goal.loop-i-preserved
loop-i-preserved c =
    let a = c.args in
    let i = c.loop-i.i in
    elim c.match-table.branch [
      | in-Formulas w ↦
          let r = c.row_at-row.result in
          let line = three_put a.letter i a.table a.words.now w.in-Formulas.is c.row_at-row.ensures w.line-next.ensures in
          rw (w.out-is, w.next-is)
          (rows_more a.letter 0 i i (listed_at a.table a.words.now) c.loop-i.invariant line (sym (zero-add i)) (omega arith))
      | in-Operators w ↦
          let line = four_put a.letter i a.table a.words.now w.in-Operators.is c.row_at-row.ensures w.line-next-in-Operators.ensures in
          rw (w.out-is, w.next-is)
          (rows_more a.letter 0 i i (listed_at a.table a.words.now) c.loop-i.invariant line (sym (zero-add i)) (omega arith))
    ]

-- `line` meets its contract: its letter and its numbers. Assumes nothing.
use native.Mathlib.Omega.{arith}
use Rattle.task.specs.Words.{joined}
use Rattle.printing.proofs.Puts.{then_put, put_as}
use Rattle.printing.proofs.Texts.{words_more, line_all}
use Rattle.printing.proofs.lines.line.Goals as goal

pub loop-number-init : goal.loop-number-init
unfolding joined
loop-number-init c = c.put-next.ensures

pub loop-number-preserved : goal.loop-number-preserved
loop-number-preserved c =
    put_as (then_put c.loop-number.invariant c.word-next.ensures)
    (words_more c.args.letter c.args.numbers.now c.loop-number.number-index (omega arith)) (omega arith)

pub returns : goal.returns
returns c =
    put_as (then_put c.loop-number.invariant c.put.ensures)
    (line_all c.args.letter c.args.numbers.now c.loop-number.number-index (omega arith)) (omega arith)

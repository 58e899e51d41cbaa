-- `read` meets its contract: reads a task file into lent tables. Assumes nothing.
use Rattle.std.proofs.Common.{sym, ◌∙◌}
use Rattle.task_file.proofs.ReadWays.{same_lengths, read_held, read_lost}
use Rattle.task_file.proofs.read.read.Goals as goal

pub returns-then-is_err : goal.returns-then-is_err
returns-then-is_err c =
    let t = c.fill-answer.auto in
    read_lost _ c.args.file.now _ _ _ _ _ _ c.fill-answer.ensures _ _ _ _ _ (sym c.is_err.ensures.value ∙ c.if-is_err.true)
    (same_lengths t.initial t.twins t.formulas t.effects t.operators) c.clear_tables.ensures

pub returns-else-is_err : goal.returns-else-is_err
returns-else-is_err c = read_held _ c.args.file.now _ _ _ _ _ _ c.fill-answer.ensures (sym c.is_err.ensures.value ∙ c.if-is_err.false)

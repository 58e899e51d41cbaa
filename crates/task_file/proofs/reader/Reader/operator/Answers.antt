-- `operator` meets its contract: operator row i: its words, if they keep their rules. Assumes nothing.
use Rattle.std.proofs.Common.{sym, ap, ◌∙◌}
use Rattle.task.specs.declared.Table.TheVariants.{Operators}
use Rattle.task.specs.Check.{operator_number}
use Rattle.task_file.proofs.Ways.{returned_words, operator_broken}
use Rattle.task_file.proofs.reader.Reader.operator.Goals as goal

pub returns-in_err-check_operator : goal.returns-in_err-check_operator
returns-in_err-check_operator c =
    let h = c.args.head in
    returned_words Operators _ c.four.new.self _ _ c.from_residual-in_err-check_operator.ensures.1
    (operator_broken h.formulas h.effects c.args.i _ _ _ _ c.args.self.now _ _ (sym c.in_ok-row.ensures)
    (c.in_err-check_operator.ensures ∙ ap (operator_number h.formulas h.effects) c.into.ensures))

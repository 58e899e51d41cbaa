-- `task_lines` meets its contract: the lines of tables that pass. Assumes nothing.
use mathlib.Core.Path.{◌∙◌}
use Rattle.task.specs.Table.{lent}
use Rattle.compile_text.proofs.PrintWays.{lines_printed, task_given}
use Rattle.compile_text.proofs.answers.task_lines.Goals as goal

pub unwrap-requires : goal.unwrap-requires
unwrap-requires c =
    let a = c.args in
    let l = lent a.head a.initial.now a.twins.now a.formulas.now a.effects.now a.operators.now in
    lines_printed l c.print.result c.told-out c.requires (λ i. (c.type_inv.operators i).fits) c.print.ensures

pub returns : goal.returns
returns c =
    let a = c.args in
    let l = lent a.head a.initial.now a.twins.now a.formulas.now a.effects.now a.operators.now in
    task_given l c.print.result c.told-out c.requires (λ i. (c.type_inv.operators i).fits) c.print.ensures c.unwrap.ensures
    (c.print.auto.out ∙ c.told-out)

-- `compile_text` meets its contract: the text of a task whose tables pass. Assumes nothing.
use mathlib.Core.Path.{ap, ◌∙◌}
use Rattle.task.specs.Lending.{lent_tables}
use Rattle.normal_form.specs.Compiled.{compiling}
use Rattle.compile_text.proofs.CompileWays.{room_own, number_given, outputs_pass, lines_given}
use Rattle.compile_text.proofs.compiling.compile_text.Goals as goal

pub task_lines-requires : goal.task_lines-requires
task_lines-requires c =
    let l = lent_tables c.args.source.now in
    outputs_pass l c.requires (c.in-Ok.ensures ∙ ap (compiling l) room_own)

pub returns-in-Ok : goal.returns-in-Ok
returns-in-Ok c =
    let l = lent_tables c.args.source.now in
    lines_given l c.requires (c.in-Ok.ensures ∙ ap (compiling l) room_own) c.task_lines.ensures

pub returns-in-Err : goal.returns-in-Err
returns-in-Err c =
    let l = lent_tables c.args.source.now in
    number_given l c.requires c.in-Err.refusal (c.in-Err.ensures ∙ ap (compiling l) room_own) c.number_line.ensures

-- `number_line` meets its contract: the line of a refusal. Assumes nothing.
use mathlib.Core.Path.{◌∙◌}
use Rattle.compile_text.proofs.PrintWays.{line_printed, line_given}
use Rattle.compile_text.proofs.answers.number_line.Goals as goal

pub unwrap-requires : goal.unwrap-requires
unwrap-requires c =
    line_printed c.args.refusal c.print_refusal.result c.told-out (rw c.number.ensures at c.print_refusal.ensures)

pub returns : goal.returns
returns c =
    line_given c.args.refusal c.print_refusal.result c.told-out (rw c.number.ensures at c.print_refusal.ensures) c.unwrap.ensures
    (c.print_refusal.auto.out ∙ c.told-out)

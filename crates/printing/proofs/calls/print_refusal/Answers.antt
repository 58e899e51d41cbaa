-- `print_refusal` meets its contract: the line of a refusal: r and the number; 20 if `out` is shorter than that. Assumes nothing.
use mathlib.Core.List.{[], ◌∷◌}
use Rattle.printing.specs.Lines.{line, refusal_line}
use Rattle.printing.specs.Printing.{printing_refusal}
use Rattle.printing.proofs.calls.print_refusal.Goals as goal

pub returns : goal.returns
unfolding printing_refusal refusal_line
returns c =
    c.settled.ensures c.args.out.now (line 114 (c.args.number ∷ [])) 8 c.line-size.ensures

-- `check_rows` meets its contract: the first number among the first `count` rows of a table. Assumes nothing.
use mathlib.Core.Path.{◌≡◌}
use Rattle.task.specs.Bounded.{first_number}
use Rattle.task.specs.Inner.Tables.{row_number}
use Rattle.task.proofs.check.check_rows.Given as goal

abbrev pub invariant-loop-i : goal.invariant-loop-i
invariant-loop-i l = first_number l.i (row_number l.table l.head l.words) ≡ 0

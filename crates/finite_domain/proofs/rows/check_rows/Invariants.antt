-- `check_rows` meets its contract: the first number among the first `count` rows of a table. Assumes nothing.
use mathlib.Core.Path.{◌≡◌}
use Rattle.task.specs.Bounded.{first_number}
use Rattle.finite_domain.specs.Inner.Tables.{finite_row_number}
use Rattle.finite_domain.proofs.rows.check_rows.Given as goal

abbrev pub invariant-loop-i : goal.invariant-loop-i
invariant-loop-i l = first_number l.i (finite_row_number l.table l.tables.head l.tables.counts.now l.words) ≡ 0

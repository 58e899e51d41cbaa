-- The words of the promises on operator records (02, K2).
use Rattle.std.specs.Prelude.{ℕ, ◌≡◌, ◌≢◌, List, length, get_or}
use Rattle.task.specs.Table.{Lent, lent}
use Rattle.task.specs.declared.operator_rows.OperatorRecord.{OperatorRecord}
use Rattle.operator_records.specs.Change.{with_percent}
use Rattle.operator_records.specs.Rows.{no_record, row_record, with_record}

-- "changes a single percent there, every other record unchanged": that record has the percent and its other words as they were, and no other moved
pub record OneChanged (before after : List OperatorRecord) (number percent : ℕ) : Type 0 where
  pub size : length after ≡ length before
  pub here : get_or after number no_record ≡ with_percent percent (get_or before number no_record)
  pub others : (k : ℕ) → k ≢ number → get_or after k no_record ≡ get_or before k no_record

-- the tables in which the record of operator i, with that percent, went back to its row. Operator 0 at cost 1 and 100 percent, changed to 50, is charged 1
-- before and after; to 49, nothing.
abbrev pub percent_changed : Lent → (i percent : ℕ) → Lent
percent_changed l i percent =
    lent l.head l.initial l.twins l.formulas l.effects
    (with_record l.operators i (with_percent percent (row_record l.operators i)))

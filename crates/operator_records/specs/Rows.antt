-- Rows of an operator table as records, and records as rows (02, K2).
use Rattle.std.specs.Prelude.{ℕ, ◌+◌, ◌*◌, Bool, cond, List, ◌++◌, length, take, drop, leb}
use Rattle.task.specs.Table.{Operator, operator_width, operator, operator_at}
use Rattle.task.specs.Words.{operator_row_words}
use Rattle.task.specs.declared.operator_rows.OperatorRecord.{OperatorRecord}

-- an operator as a record, and a record as an operator
abbrev pub as_record : Operator → OperatorRecord
as_record o = record { precondition = o.precondition; effect = o.effect; cost = o.cost; percent = o.percent }

abbrev pub as_operator : OperatorRecord → Operator
as_operator r = operator r.precondition r.effect r.cost r.percent

abbrev pub no_record : OperatorRecord
no_record = record { precondition = 0; effect = 0; cost = 0; percent = 0 }

-- whether a table of so many words holds row i wholly. Seven words do not hold row 1: with rows counted by their beginnings they would.
unfoldable pub holds : (words i : ℕ) → Bool
holds words i = leb (operator_width * i + operator_width) words

-- the record of row i; all words 0 where the table does not hold it
unfoldable pub row_record : List ℕ → ℕ → OperatorRecord
row_record table i = cond (holds (length table) i) (as_record (operator_at table i)) no_record

-- the table with a record as its row i, its words in their order and nothing else changed; as it was where the table does not hold that row. Of eight words
-- the last four become row 1's: with row 1 taken for word 1, row 0 would change.
unfoldable pub with_record : List ℕ → ℕ → OperatorRecord → List ℕ
with_record table i r =
    let at = operator_width * i in
    cond (holds (length table) i) ((take at table ++ operator_row_words (as_operator r)) ++ drop (at + operator_width) table) table

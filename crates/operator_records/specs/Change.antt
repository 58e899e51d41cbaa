-- What changing one percent gives (02, K2): the answer and all records at exit, from the inputs alone.
use Rattle.std.specs.Prelude.{ℕ, zero, suc, ◌≡◌, List, [], ◌∷◌, length, leb, ltb}
use Rattle.task.specs.Check.{unless}
use Rattle.task.specs.declared.operator_rows.OperatorRecord.{OperatorRecord}

-- 17, a number outside the list, then 24, a percent above 200, then 0. Number 0 of an empty list at 201 gets 17: with 24 first it would get 24.
-- Percent 200 gets 0: with "200 or more" it would get 24. A number that is the count gets 17: with "above the count" it would get 0.
unfoldable pub number_of : (count number percent : ℕ) → ℕ
number_of count number percent = unless (ltb number count) 17 (unless (leb percent 200) 24 0)

-- a record with another percent, and the rest of its words as they were
abbrev pub with_percent : ℕ → OperatorRecord → OperatorRecord
with_percent percent r = record { precondition = r.precondition; effect = r.effect; cost = r.cost; percent = percent }

-- the records with that one percent changed. Of two records and number 1 the first stays as it was.
unfoldable pub changed : List OperatorRecord → (number percent : ℕ) → List OperatorRecord
changed [] number percent = []
changed (r ∷ rs) zero percent = with_percent percent r ∷ rs
changed (r ∷ rs) (suc number) percent = r ∷ changed rs number percent

-- What a call of `set_percent` leaves.
pub record Change : Type 0 where
  pub answer : ℕ
  pub records : List OperatorRecord

-- the outcome by its number: a refusal changes nothing
unfoldable pub change_by : ℕ → List OperatorRecord → (number percent : ℕ) → Change
change_by zero rs number percent = record { answer = 0; records = changed rs number percent }
change_by (suc refusal) rs number percent = record { answer = suc refusal; records = rs }

unfoldable pub change : List OperatorRecord → (number percent : ℕ) → Change
change rs number percent = change_by (number_of (length rs) number percent) rs number percent

-- What the contract of `set_percent` says: the answer and the records at exit are the definition's.
pub record ChangeGives (w : Change) (r : ℕ) (after : List OperatorRecord) : Type 0 where
  pub answer : r ≡ w.answer
  pub records : after ≡ w.records

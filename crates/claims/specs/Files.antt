-- What reading and writing say of each other, from what the two calls answer: a field for each thing that is the same.
use Rattle.std.specs.Prelude.{ℕ, ◌*◌, ◌≡◌, List, length, take}
use Rattle.task.specs.Table.{Lent, operator_width}
use Rattle.task_file.specs.Outcome.{Read, ReadOutcome}
use Rattle.task_writer.specs.Writing.{Written, WriteOutcome}

-- A reading gives the head of lent tables, and in each table as many words (of the initial state: bytes) as the head counts.
pub record SameTables (l : Lent) (o : ReadOutcome) : Type 0 where
  pub head : o.answer ≡ Read l.head
  pub initial : take l.head.variables o.initial ≡ take l.head.variables l.initial
  pub twins : take l.head.twins o.twins ≡ take l.head.twins l.twins
  pub formulas : take (3 * l.head.formulas) o.formulas ≡ take (3 * l.head.formulas) l.formulas
  pub effects : take (3 * l.head.effects) o.effects ≡ take (3 * l.head.effects) l.effects
  pub operators : take (operator_width * l.head.operators) o.operators ≡ take (operator_width * l.head.operators) l.operators

-- A writing answers the length of a file, and gives its bytes.
pub record SameFile (file : List ℕ) (o : WriteOutcome) : Type 0 where
  pub written : o.answer ≡ Written (length file)
  pub bytes : take (length file) o.out ≡ file

-- What the exported reading and writing leave, from what `read_outcome` and `write_outcome` yield.
use Rattle.std.specs.Prelude.{ℕ, ◌+◌, ◌≡◌, List}
use Rattle.task.specs.declared.Head.{Head}
use Rattle.task_file.specs.Outcome.{ReadAnswer, Read, Refused, ReadOutcome}
use Rattle.task_writer.specs.Writing.{WriteAnswer, Written, NotWritten, WriteOutcome}
use Rattle.test_calls.specs.Buffers.{told_words, head_words, no_head}

abbrev pub read_number : ReadAnswer → ℕ
read_number (Read head) = 0
read_number (Refused number) = number

abbrev pub read_head : ReadAnswer → Head
read_head (Read head) = head
read_head (Refused number) = no_head

-- the length, or 65,536 and the number
abbrev pub write_told : WriteAnswer → ℕ
write_told (Written size) = size
write_told (NotWritten number) = 65536 + number

pub record ReadTells (w : ReadOutcome) (before : List ℕ) (r : ℕ) (head initial twins formulas effects operators : List ℕ) : Type 0 where
  pub number : r ≡ read_number w.answer
  pub head_left : head ≡ told_words (head_words (read_head w.answer)) before
  pub initial_left : initial ≡ w.initial
  pub twins_left : twins ≡ w.twins
  pub formulas_left : formulas ≡ w.formulas
  pub effects_left : effects ≡ w.effects
  pub operators_left : operators ≡ w.operators

pub record WriteTells (w : WriteOutcome) (r : ℕ) (out : List ℕ) : Type 0 where
  pub number : r ≡ write_told w.answer
  pub out_left : out ≡ w.out

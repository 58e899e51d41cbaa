-- What the call that reads leaves: its answer and each lent table (01, "Where each number is given": after a refusal every output buffer is all 0; after
-- success, all past the answer is 0).
use Rattle.std.specs.Prelude.{ℕ, List, replicate, Result, Ok, Err}
use Rattle.task.specs.declared.Head.{Head}
use Rattle.task.specs.declared.refusal.Refusal.{Refusal}
use Rattle.task.specs.Refused.{number_of}
use Rattle.task.specs.Words.{padded, head_of, words_of, operator_words}
use Rattle.file_format.specs.Reading.{Lengths, Verdict, accepted, rejected, reading}

-- the head of the tables that were filled, or the number of the refusal
pub data ReadAnswer : Type 0 where
  Read : Head → ReadAnswer
  Refused : ℕ → ReadAnswer

-- the code's answer as that
abbrev pub read_answered : Result Head Refusal → ReadAnswer
read_answered (Ok head) = Read head
read_answered (Err refusal) = Refused (number_of refusal)

pub record ReadOutcome : Type 0 where
  pub answer : ReadAnswer
  pub initial : List ℕ
  pub twins : List ℕ
  pub formulas : List ℕ
  pub effects : List ℕ
  pub operators : List ℕ

unfoldable pub outcome_of : Lengths → Verdict → ReadOutcome
outcome_of l (accepted t) =
    record {
      answer = Read (head_of t);
      initial = padded l.initial t.initial;
      twins = padded l.twins t.originals;
      formulas = padded l.formulas (words_of t.formulas);
      effects = padded l.effects (words_of t.effects);
      operators = padded l.operators (operator_words t.operators);
    }
outcome_of l (rejected n) =
    record {
      answer = Refused n;
      initial = replicate l.initial 0;
      twins = replicate l.twins 0;
      formulas = replicate l.formulas 0;
      effects = replicate l.effects 0;
      operators = replicate l.operators 0;
    }

-- from the lent tables' lengths and the file alone
unfoldable pub read_outcome : Lengths → List ℕ → ReadOutcome
read_outcome l file = outcome_of l (reading l file)

-- what a call left, as one value
abbrev pub read_left : ReadAnswer → (initial twins formulas effects operators : List ℕ) → ReadOutcome
read_left r initial twins formulas effects operators =
    record { answer = r; initial = initial; twins = twins; formulas = formulas; effects = effects; operators = operators }

abbrev pub lengths : (initial twins formulas effects operators : ℕ) → Lengths
lengths initial twins formulas effects operators =
    record { initial = initial; twins = twins; formulas = formulas; effects = effects; operators = operators }

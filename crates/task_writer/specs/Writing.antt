-- What the call that writes leaves: its answer and the output (01, "Where each number is given": the tables' own numbers, then 20; after a refusal the
-- output is all 0, and past the file all is 0).
use Rattle.std.specs.Prelude.{ℕ, cond, List, length, replicate, leb, eqb, Result, Ok, Err}
use Rattle.task.specs.declared.refusal.Refusal.{Refusal}
use Rattle.task.specs.Refused.{number_of}
use Rattle.task.specs.Table.{Lent, task_of}
use Rattle.task.specs.Check.{refusal}
use Rattle.file_format.specs.Bytes.{file_of}
use Rattle.task.specs.Words.{padded}

-- the file's length, or the number of the refusal
pub data WriteAnswer : Type 0 where
  Written : ℕ → WriteAnswer
  NotWritten : ℕ → WriteAnswer

-- the call's own answer, so told
abbrev pub write_answered : Result ℕ Refusal → WriteAnswer
write_answered (Ok length) = Written length
write_answered (Err refusal) = NotWritten (number_of refusal)

pub record WriteOutcome : Type 0 where
  pub answer : WriteAnswer
  pub out : List ℕ

abbrev pub wrote : WriteAnswer → List ℕ → WriteOutcome
wrote r out = record { answer = r; out = out }

-- a file into an output of n bytes: 20 if it does not fit
unfoldable pub file_outcome : List ℕ → ℕ → WriteOutcome
file_outcome file n =
    cond (leb (length file) n) (wrote (Written (length file)) (padded n file)) (wrote (NotWritten 20) (replicate n 0))

-- from the lent tables and the output's length alone
unfoldable pub write_outcome : Lent → ℕ → WriteOutcome
write_outcome l n =
    cond (eqb (refusal l) 0) (file_outcome (file_of (task_of l)) n) (wrote (NotWritten (refusal l)) (replicate n 0))

-- The whole outcome of printing, from the inputs alone: the answer, and the buffer at exit.
use Rattle.std.specs.Prelude.{ℕ, ◌≡◌, cond, List, length, replicate, leb, eqb, Result, Ok, Err}
use Rattle.task.specs.declared.refusal.Refusal.{Refusal}
use Rattle.task.specs.Refused.{number_of}
use Rattle.task.specs.Table.{Lent, task_of}
use Rattle.task.specs.Check.{refusal}
use Rattle.task.specs.Words.{padded}
use Rattle.printing.specs.Lines.{lines, refusal_line}

-- how many bytes the lines take, or the number of the refusal
pub data PrintAnswer : Type 0 where
  Printed : ℕ → PrintAnswer
  Refused : ℕ → PrintAnswer

-- the call's own answer, so told
abbrev pub print_answered : Result ℕ Refusal → PrintAnswer
print_answered (Ok length) = Printed length
print_answered (Err refusal) = Refused (number_of refusal)

pub record PrintOutcome : Type 0 where
  pub answer : PrintAnswer
  pub out : List ℕ

-- A call gives an outcome: its answer, and the buffer at exit.
pub record PrintGives (o : PrintOutcome) (answer : PrintAnswer) (out : List ℕ) : Type 0 where
  pub answered : answer ≡ o.answer
  pub left : out ≡ o.out

-- after a refusal the buffer of n bytes is all 0
unfoldable pub not_printed : (number n : ℕ) → PrintOutcome
not_printed number n = record { answer = Refused number; out = replicate n 0 }

-- a text in a buffer of n bytes, all 0 behind it; 20 if it does not fit
unfoldable pub placed : (text : List ℕ) (n : ℕ) → PrintOutcome
placed text n =
    cond (leb (length text) n)
    (record { answer = Printed (length text); out = padded n text })
    (not_printed 20 n)

-- a task's lines: the tables' own number comes first
unfoldable pub printing : Lent → (n : ℕ) → PrintOutcome
printing l n = cond (eqb (refusal l) 0) (placed (lines (task_of l)) n) (not_printed (refusal l) n)

-- a refusal's line
unfoldable pub printing_refusal : (number n : ℕ) → PrintOutcome
printing_refusal number n = placed (refusal_line number) n

-- What filling leaves: the answer, and on success every table.
use Rattle.std.specs.Prelude.{ℕ, ◌≡◌, List, Result}
use Rattle.task.specs.declared.Head.{Head}
use Rattle.task.specs.declared.refusal.Refusal.{Refusal}
use Rattle.file_format.specs.Reading.{Lengths, Verdict, accepted, rejected}
use Rattle.task_file.specs.Outcome.{Refused, read_answered, read_left, outcome_of}

-- by what the file is read as. After a refusal the tables are left open: `read` clears them all.
abbrev pub Filled : Lengths → Verdict → Result Head Refusal → (i w f e o : List ℕ) → Type 0
Filled l (accepted t) r i w f e o = read_left (read_answered r) i w f e o ≡ outcome_of l (accepted t)
Filled l (rejected n) r i w f e o = read_answered r ≡ Refused n

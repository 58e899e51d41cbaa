-- What reading through tables of one's own answers, and the number of a refusal in compiling's answer, 0 without one.
use Rattle.std.specs.Prelude.{ℕ, ◌≡◌, ◌≤◌, List, Result, Ok, Err}
use Rattle.task.specs.declared.refusal.Refusal.{Refusal}
use Rattle.task.specs.declared.tables.Tables.{Tables}
use Rattle.task.specs.Refused.{number_of}
use Rattle.file_format.specs.Reading.{Lengths, rejected, reading}
use Rattle.task_file.specs.Outcome.{Read, read_left, read_outcome}
use Rattle.normal_form.specs.Compiled.{Answer, compiled_head, not_compiled}

-- what a file is read into through tables of these lengths, or the number that it is refused by
abbrev pub ReadInto : Lengths → List ℕ → Result Tables Refusal → Type 0
ReadInto m file (Ok t) =
    read_left (Read t.head) t.initial.now t.twins.now t.formulas.now t.effects.now t.operators.now ≡ read_outcome m file
ReadInto m file (Err e) = reading m file ≡ rejected (number_of e)

-- compiling's
abbrev pub refused_compile : Answer → ℕ
refused_compile (compiled_head head) = 0
refused_compile (not_compiled n) = n

-- no larger than a task may need: what a function asks that is generic in the sizes
abbrev pub OwnSizes : (twins words operators : ℕ) → Type 0
OwnSizes twins words operators = (twins ≤ 256) × (words ≤ 12288) × (operators ≤ 1024)

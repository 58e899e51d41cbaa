-- What a compiling gives, refusals too (01, "Where each number is given"): the answer and every lent table at exit, from the inputs alone.
use Rattle.std.specs.Prelude.{ℕ, zero, suc, ◌+◌, ◌*◌, Bool, ◌&&◌, List, replicate, leb, eqb}
use Rattle.task.specs.declared.Head.{Head}
use Rattle.task.specs.Table.{Lent, Task, task_of}
use Rattle.task.specs.Check.{Lengths, counts_kept, room as has_room, unless, refusal}
use Rattle.task.specs.Rules.{Limits, HasRoom}
use Rattle.task.specs.Words.{padded, words_of, operator_words, head_of}
use Rattle.normal_form.specs.Finished.{finished}

-- How many bytes or words are lent for each output table, and for scratch. What stands in them plays no part: they may come in dirty.
pub record Room : Type 0 where
  pub initial : ℕ
  pub twins : ℕ
  pub formulas : ℕ
  pub effects : ℕ
  pub operators : ℕ
  pub scratch : ℕ

-- 14: measured by the source's counts
unfoldable pub compile_scratch_kept : Head → Room → Bool
compile_scratch_kept h room = leb (2 * h.formulas + 2 * h.effects) room.scratch

-- the output tables
abbrev pub output_lengths : Room → Lengths
output_lengths room =
    record {
      initial = room.initial;
      twins = room.twins;
      formulas = room.formulas;
      effects = room.effects;
      operators = room.operators;
    }

-- 15: the finished task keeps the limits, and each table that is lent has room for it. It is about the finished task alone: of 512 variables,
-- "set v1 under v0" compiles, and "set v1 under v0, and clear v1" does not, since N brings v0's twin, variable number 513.
unfoldable pub fits : Task → Room → Bool
fits t room = counts_kept (head_of t) && has_room (output_lengths room) (head_of t)

-- the same, in numbers
pub record Fits (t : Task) (room : Room) : Type 0 where
  pub limits : Limits t
  pub tables : HasRoom (output_lengths room) t

-- The first in order: the tables' own number, 13, 14, 15; 0 if there is none.
unfoldable pub compile_refusal : Lent → Room → ℕ
compile_refusal l room =
    unless (eqb (refusal l) 0) (refusal l)
    (unless (eqb l.head.twins 0) 13
    (unless (compile_scratch_kept l.head room) 14 (unless (fits (finished (task_of l)) room) 15 0)))

pub data Answer : Type 0 where
  compiled_head : Head → Answer
  not_compiled : ℕ → Answer

-- What a compiling leaves: its answer, the output tables and scratch.
pub record CompileOutcome : Type 0 where
  pub answer : Answer
  pub initial : List ℕ
  pub twins : List ℕ
  pub formulas : List ℕ
  pub effects : List ℕ
  pub operators : List ℕ
  pub scratch : List ℕ

-- after a refusal every output is all 0
unfoldable pub nothing_given : ℕ → Room → CompileOutcome
nothing_given number room =
    record {
      answer = not_compiled number;
      initial = replicate room.initial 0;
      twins = replicate room.twins 0;
      formulas = replicate room.formulas 0;
      effects = replicate room.effects 0;
      operators = replicate room.operators 0;
      scratch = replicate room.scratch 0;
    }

-- after success the task's words; scratch always ends as 0
unfoldable pub task_given : Task → Room → CompileOutcome
task_given t room =
    record {
      answer = compiled_head (head_of t);
      initial = padded room.initial t.initial;
      twins = padded room.twins t.originals;
      formulas = padded room.formulas (words_of t.formulas);
      effects = padded room.effects (words_of t.effects);
      operators = padded room.operators (operator_words t.operators);
      scratch = replicate room.scratch 0;
    }

unfoldable pub outcome_by : ℕ → Task → Room → CompileOutcome
outcome_by zero t room = task_given t room
outcome_by (suc n) t room = nothing_given (suc n) room

-- THE outcome of a compiling
unfoldable pub compiling : Lent → Room → CompileOutcome
compiling l room = outcome_by (compile_refusal l room) (finished (task_of l)) room

-- the head that was answered and the output tables, as they are lent to the next call
abbrev pub given : Head → CompileOutcome → Lent
given h o =
    record {
      head = h;
      initial = o.initial;
      twins = o.twins;
      formulas = o.formulas;
      effects = o.effects;
      operators = o.operators;
    }

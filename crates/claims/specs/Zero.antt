-- What each call leaves, as a caller sees it (01, "Where each number is given"): "After a refusal every output buffer is all 0; after success, all past
-- the answer is 0; scratch always ends as 0. A refused step or run leaves the state unchanged and reports 0 steps, cost 0 and no goal." One record
-- a call, over its answer and its buffers at exit.
use Rattle.std.specs.Prelude.{ℕ, ◌+◌, ◌*◌, ◌≤◌, ◌<◌, ◌≡◌, Bool, false, List, length, get_or}
use Rattle.task.specs.declared.Head.{Head}
use Rattle.task.specs.Table.{Task, operator_width}
use Rattle.file_format.specs.Bytes.{file_of}
use Rattle.file_format.specs.Reading.{Lengths, accepted, reading}
use Rattle.task_file.specs.Outcome.{Read, Refused, ReadOutcome}
use Rattle.task_writer.specs.Writing.{Written, NotWritten, WriteOutcome}
use Rattle.stepper.specs.Stepped.{Stepped}
use Rattle.plan.specs.Outcome.{Refused as RunRefused, Ran}
use Rattle.normal_form.specs.Finished.{finished}
use Rattle.normal_form.specs.Compiled.{Room, compiled_head, not_compiled, CompileOutcome}
use Rattle.entry_tables.specs.Own.{own}
use Rattle.layouts.specs.Layout.{Laid}
use Rattle.run_entry.specs.Entry.{RunEntry}
use Rattle.compiled_file.specs.Filed.{CompileEntry}

-- A buffer that was lent with n elements is all 0. For n 1 neither [1] nor [] is.
pub record AllZero (n : ℕ) (out : List ℕ) : Type 0 where
  pub size : length out ≡ n
  pub zeros : (i : ℕ) → i < n → get_or out i 0 ≡ 0

-- .. holds an answer of k elements in front, and all past it is 0. For k 1 and n 2 neither [5, 5] nor [5] does.
pub record ZeroPast (k n : ℕ) (out : List ℕ) : Type 0 where
  pub size : length out ≡ n
  pub inside : k ≤ n
  pub zeros : (i : ℕ) → k ≤ i → i < n → get_or out i 0 ≡ 0

-- read: V bytes, W originals and three words a row, an operator's four
pub record NoTaskRead (l : Lengths) (o : ReadOutcome) : Type 0 where
  pub initial : AllZero l.initial o.initial
  pub twins : AllZero l.twins o.twins
  pub formulas : AllZero l.formulas o.formulas
  pub effects : AllZero l.effects o.effects
  pub operators : AllZero l.operators o.operators

pub record TaskRead (l : Lengths) (h : Head) (o : ReadOutcome) : Type 0 where
  pub initial : ZeroPast h.variables l.initial o.initial
  pub twins : ZeroPast h.twins l.twins o.twins
  pub formulas : ZeroPast (3 * h.formulas) l.formulas o.formulas
  pub effects : ZeroPast (3 * h.effects) l.effects o.effects
  pub operators : ZeroPast (operator_width * h.operators) l.operators o.operators

pub record ReadLeaves (l : Lengths) (o : ReadOutcome) : Type 0 where
  pub after_refusal : (n : ℕ) → o.answer ≡ Refused n → NoTaskRead l o
  pub after_success : (h : Head) → o.answer ≡ Read h → TaskRead l h o

-- write: into n bytes
pub record WriteLeaves (n : ℕ) (o : WriteOutcome) : Type 0 where
  pub after_refusal : (k : ℕ) → o.answer ≡ NotWritten k → AllZero n o.out
  pub after_success : (k : ℕ) → o.answer ≡ Written k → ZeroPast k n o.out

-- compile: the tables as in read
pub record NoTaskCompiled (room : Room) (o : CompileOutcome) : Type 0 where
  pub initial : AllZero room.initial o.initial
  pub twins : AllZero room.twins o.twins
  pub formulas : AllZero room.formulas o.formulas
  pub effects : AllZero room.effects o.effects
  pub operators : AllZero room.operators o.operators

pub record TaskCompiled (room : Room) (h : Head) (o : CompileOutcome) : Type 0 where
  pub initial : ZeroPast h.variables room.initial o.initial
  pub twins : ZeroPast h.twins room.twins o.twins
  pub formulas : ZeroPast (3 * h.formulas) room.formulas o.formulas
  pub effects : ZeroPast (3 * h.effects) room.effects o.effects
  pub operators : ZeroPast (operator_width * h.operators) room.operators o.operators

pub record CompileLeaves (room : Room) (o : CompileOutcome) : Type 0 where
  pub after_refusal : (n : ℕ) → o.answer ≡ not_compiled n → NoTaskCompiled room o
  pub after_success : (h : Head) → o.answer ≡ compiled_head h → TaskCompiled room h o
  pub scratch : AllZero room.scratch o.scratch

-- step and run, refused: the state unchanged, 0 steps, cost 0 and no goal
pub record NothingDone (before after : List ℕ) (steps cost : ℕ) (goal : Bool) : Type 0 where
  pub state : after ≡ before
  pub no_steps : steps ≡ 0
  pub no_cost : cost ≡ 0
  pub no_goal : goal ≡ false

-- step: a number other than 0 is a refusal, 17 and 18 among them
pub record StepLeaves (before lent : List ℕ) (o : Stepped) : Type 0 where
  pub after_refusal :
      (o.answer.refusal ≡ 0 → ⊥)
      → NothingDone before o.state o.answer.steps o.answer.cost o.answer.goal
  pub scratch : AllZero (length lent) o.scratch

-- run: a run that 17 or 18 stops is not refused
pub record RunLeaves (before lent : List ℕ) (o : Ran) : Type 0 where
  pub after_refusal :
      (n : ℕ)
      → o.answer.end ≡ RunRefused n
      → NothingDone before o.state o.answer.steps o.answer.cost o.answer.goal
  pub scratch : AllZero (length lent) o.scratch

-- pnf_read: a task was read, and its layout is six head words, V bytes, W originals and three words a row, an operator's four, two bytes a word
pub record LayoutGiven (file : List ℕ) (n : ℕ) (o : Laid) : Type 0 where
  pub task : Task
  pub read : reading own file ≡ accepted task
  pub bytes :
      ZeroPast
      (12
      + length task.initial
      + 2 * length task.originals
      + 6 * length task.formulas
      + 6 * length task.effects
      + 2 * (operator_width * length task.operators))
      n
      o.bytes

pub record ReadEntryLeaves (file : List ℕ) (n : ℕ) (o : Laid) : Type 0 where
  pub after_refusal : (o.number ≡ 0 → ⊥) → AllZero n o.bytes
  pub after_success : o.number ≡ 0 → LayoutGiven file n o

-- pnf_compile: a task was read, its compiled task's file was given, and the file's length in 4 bytes
pub record NoFileGiven (out-size result-size : ℕ) (o : CompileEntry) : Type 0 where
  pub out : AllZero out-size o.out
  pub result : AllZero result-size o.result

pub record FileGiven (file : List ℕ) (out-size result-size : ℕ) (o : CompileEntry) : Type 0 where
  pub task : Task
  pub read : reading own file ≡ accepted task
  pub out : ZeroPast (length (file_of (finished task))) out-size o.out
  pub result : ZeroPast 4 result-size o.result

pub record CompileEntryLeaves (file : List ℕ) (out-size result-size : ℕ) (o : CompileEntry) : Type 0 where
  pub after_refusal : (o.number ≡ 0 → ⊥) → NoFileGiven out-size result-size o
  pub after_success : o.number ≡ 0 → FileGiven file out-size result-size o

-- pnf_run: every number but these is a refusal; a run's result takes 16 bytes, also after a stop
pub data RunNumber (number : ℕ) : Type 0 where
  not_stopped : number ≡ 0 → RunNumber number
  stopped_outside : number ≡ 17 → RunNumber number
  stopped_not_applicable : number ≡ 18 → RunNumber number

pub record NoRunGiven (before : List ℕ) (n : ℕ) (o : RunEntry) : Type 0 where
  pub state : o.state ≡ before
  pub result : AllZero n o.result

pub record RunEntryLeaves (before : List ℕ) (n : ℕ) (o : RunEntry) : Type 0 where
  pub after_refusal : (RunNumber o.number → ⊥) → NoRunGiven before n o
  pub after_run : RunNumber o.number → ZeroPast 16 n o.result

-- Which number a call gives, in the words of 01's table of refusals: a rule for each place in order, with its number. The number is that of the first rule
-- that is broken, and 0 exactly if all are kept. The rules are statements; how the calls test them plays no part here.
use Rattle.std.specs.Prelude.{ℕ, ◌+◌, ◌-◌, ◌*◌, ◌%◌, ◌≤◌, ◌<◌, ◌≡◌, true, List, length, get_or}
use Rattle.task.specs.Table.{Operator, Lent, Task, row_at, operator_at, task_of, formula_kind, effect_kind}
use Rattle.task.specs.Rules.{FormulaRule, EffectRule, OperatorRule, Counts, TwinRule, Limits, Checked, Rules, LongEnough}
use Rattle.task.specs.Semantics.{holds}
use Rattle.task.specs.Tree.{formula_of}
use Rattle.task.specs.Run.{Stop, ended, stopped, plain_run}
use Rattle.file_format.specs.Bytes.{file_of}
use Rattle.file_format.specs.Reading.{rejected, reading}
use Rattle.normal_form.specs.Finished.{finished}
use Rattle.normal_form.specs.Compiled.{Room, Fits, Answer, compiled_head, not_compiled}
use Rattle.task_writer.specs.Writing.{WriteAnswer, Written, NotWritten}
use Rattle.plan.specs.Outcome.{End, Ended, Stopped, Refused}
use Rattle.entry_tables.specs.Own.{own}
use Rattle.layouts.specs.Layout.{tables_bytes, numbers_of}

-- n is given at this place or behind it: the rule is broken and n is its number, or it is kept and n is what the places behind it give
pub data Given (rule : Type 0) (number : ℕ) (behind : ℕ → Type 0) (n : ℕ) : Type 0 where
  broken : (rule → ⊥) → n ≡ number → Given rule number behind n
  keeps : rule → behind n → Given rule number behind n

-- behind the last place
abbrev pub no_rule_left : ℕ → Type 0
no_rule_left n = n ≡ 0

-- An operator row has two places (02, K2): 12, its precondition and its effect are rows of their tables; 24, its percent is at most 200.
pub record PartsRule (f e : ℕ) (o : Operator) : Type 0 where
  pub formula : o.precondition < f
  pub changes : o.effect < e

abbrev pub broken_row : (f e : ℕ) → Operator → ℕ → Type 0
broken_row f e o = Given (PartsRule f e o) 12 (Given (o.percent ≤ 200) 24 (λ n. ⊥))

-- Operator rows, row by row: the first that breaks a rule tells the number, so 24 in row 0 comes before 12 in row 1; or all keep theirs.
pub data OperatorRows (l : Lent) (behind : ℕ → Type 0) (n : ℕ) : Type 0 where
  first_broken :
      (i : ℕ)
      → i < l.head.operators
      → ((k : ℕ) → k < i → OperatorRule l.head.formulas l.head.effects (operator_at l.operators k))
      → broken_row l.head.formulas l.head.effects (operator_at l.operators i) n
      → OperatorRows l behind n
  all_keep :
      ((i : ℕ) → i < l.head.operators → OperatorRule l.head.formulas l.head.effects (operator_at l.operators i))
      → behind n
      → OperatorRows l behind n

-- Head, initial bytes, twin row, formula row, effect row, operator row
abbrev pub tables_numbers : Lent → (behind : ℕ → Type 0) → ℕ → Type 0
tables_numbers l behind =
    let h = l.head in
    Given (Counts h) 6
    (Given (h.goal < h.formulas) 7
    (Given (LongEnough l) 5
    (Given ((v : ℕ) → v < h.variables → get_or l.initial v 0 ≤ 1) 8
    (Given ((k : ℕ) → k < h.twins → TwinRule (h.variables - h.twins) l.twins k) 9
    (Given
    ((i : ℕ) → i < h.formulas → let r = row_at l.formulas i in FormulaRule h.variables i (formula_kind r.kind) r.a r.b)
    10
    (Given
    ((i : ℕ) → i < h.effects → let r = row_at l.effects i in EffectRule h.variables h.formulas i (effect_kind r.kind) r.a r.b)
    11
    (OperatorRows l behind)))))))

-- the number of an answer, 0 where the call was not refused
abbrev pub write_number : WriteAnswer → ℕ
write_number (Written n) = 0
write_number (NotWritten number) = number

abbrev pub compile_answer_number : Answer → ℕ
compile_answer_number (compiled_head h) = 0
compile_answer_number (not_compiled number) = number

abbrev pub end_number : End → ℕ
end_number (Ended goal) = 0
end_number (Stopped number step) = 0
end_number (Refused number) = number

-- Writing: 20, output of n bytes shorter than the file
abbrev pub write_numbers : Lent → (n : ℕ) → ℕ → Type 0
write_numbers l n = tables_numbers l (Given (length (file_of (task_of l)) ≤ n) 20 no_rule_left)

-- Compiling: 13, 14, 15
abbrev pub compile_numbers : Lent → Room → ℕ → Type 0
compile_numbers l room =
    tables_numbers l
    (Given (l.head.twins ≡ 0) 13
    (Given (2 * l.head.formulas + 2 * l.head.effects ≤ room.scratch) 14 (Given (Fits (finished (task_of l)) room) 15 no_rule_left)))

-- 16: a state of v variables
pub record StateRule (v : ℕ) (s : List ℕ) : Type 0 where
  pub size : length s ≡ v
  pub bits : (x : ℕ) → x < length s → get_or s x 0 ≤ 1

-- Stepping, running: 16, 14
abbrev pub state_numbers : Lent → (state scratch : List ℕ) → (behind : ℕ → Type 0) → ℕ → Type 0
state_numbers l s scratch behind =
    tables_numbers l
    (Given (StateRule l.head.variables s) 16 (Given (l.head.formulas + l.head.effects ≤ length scratch) 14 behind))

-- A step: 17, 18
abbrev pub step_numbers : Lent → (state : List ℕ) → (o : ℕ) → (scratch : List ℕ) → ℕ → Type 0
step_numbers l s o scratch =
    state_numbers l s scratch
    (Given (o < l.head.operators) 17
    (Given (holds s (formula_of (task_of l).formulas (operator_at l.operators o).precondition) ≡ true) 18 no_rule_left))

-- Running: 19. A run that 17 or 18 stops is not refused.
abbrev pub run_numbers : Lent → (state numbers scratch : List ℕ) → ℕ → Type 0
run_numbers l s numbers scratch = state_numbers l s scratch (Given (length numbers ≤ 65535) 19 no_rule_left)

-- The C entries. A file is refused with reading's number, which is never 0; or it is the file of a task that keeps the rules, and n is what the places
-- behind reading give.
pub data FileNumber (file : List ℕ) (behind : Task → ℕ → Type 0) (n : ℕ) : Type 0 where
  not_read : reading own file ≡ rejected n → (n ≡ 0 → ⊥) → FileNumber file behind n
  was_read : (t : Task) → file ≡ file_of t → Rules t → behind t n → FileNumber file behind n

-- pnf_read: 20, the buffer of n bytes shorter than the layout
abbrev pub read_entry_numbers : (file : List ℕ) → (n : ℕ) → ℕ → Type 0
read_entry_numbers file n = FileNumber file (λ t. Given (length (tables_bytes t) ≤ n) 20 no_rule_left)

-- pnf_compile: 13, 15, then 20, one of the outputs too short
pub record FileFits (t : Task) (o r : ℕ) : Type 0 where
  pub file : length (file_of t) ≤ o
  pub result : 4 ≤ r

abbrev pub compile_entry_numbers : (file : List ℕ) → (o r : ℕ) → ℕ → Type 0
compile_entry_numbers file o r =
    FileNumber file
    (λ t. Given (length t.originals ≡ 0) 13 (Given (Limits (finished t)) 15 (Given (FileFits (finished t) o r) 20 no_rule_left)))

-- pnf_run: 16, then 19, also for half a number, then 20
pub record SequenceRule (sequence : List ℕ) : Type 0 where
  pub whole : length sequence % 2 ≡ 0
  pub few : length (numbers_of sequence) ≤ 65535

-- a run that is not refused gives the number of its stop, 17 or 18, or 0
pub data StopNumber (stop : Stop) (n : ℕ) : Type 0 where
  no_stop : stop ≡ ended → n ≡ 0 → StopNumber stop n
  stopped_by : stop ≡ stopped n → StopNumber stop n

abbrev pub run_entry_numbers : (file state sequence : List ℕ) → (r : ℕ) → ℕ → Type 0
run_entry_numbers file state sequence r =
    FileNumber file
    (λ t.
    Given (StateRule (length t.initial) state) 16
    (Given (SequenceRule sequence) 19
    (Given (16 ≤ r) 20 (StopNumber (plain_run t state (numbers_of sequence)).stop))))

-- Where a call is refused by no number, all of its rules are kept, one by one; those of the tables are `LongEnough` and `Checked`.
pub record WriteKept (l : Lent) (n : ℕ) : Type 0 where
  pub tables : LongEnough l × Checked (task_of l)
  pub output : length (file_of (task_of l)) ≤ n

pub record StateKept (l : Lent) (s scratch : List ℕ) : Type 0 where
  pub tables : LongEnough l × Checked (task_of l)
  pub state : StateRule l.head.variables s
  pub scratch_there : l.head.formulas + l.head.effects ≤ length scratch

pub record StepKept (l : Lent) (s : List ℕ) (o : ℕ) (scratch : List ℕ) : Type 0 where
  pub early : StateKept l s scratch
  pub inside : o < l.head.operators
  pub precondition : holds s (formula_of (task_of l).formulas (operator_at l.operators o).precondition) ≡ true

pub record RunKept (l : Lent) (s numbers scratch : List ℕ) : Type 0 where
  pub early : StateKept l s scratch
  pub few : length numbers ≤ 65535

pub record ReadEntryKept (file : List ℕ) (n : ℕ) : Type 0 where
  pub task : Task
  pub same : file ≡ file_of task
  pub rules : Rules task
  pub output : length (tables_bytes task) ≤ n

pub record CompileEntryKept (file : List ℕ) (o r : ℕ) : Type 0 where
  pub task : Task
  pub same : file ≡ file_of task
  pub rules : Rules task
  pub untwinned : length task.originals ≡ 0
  pub limits : Limits (finished task)
  pub outputs : FileFits (finished task) o r

-- of a run that is not stopped
pub record RunEntryKept (file state sequence : List ℕ) (r : ℕ) : Type 0 where
  pub task : Task
  pub same : file ≡ file_of task
  pub rules : Rules task
  pub start : StateRule (length task.initial) state
  pub numbers : SequenceRule sequence
  pub output : 16 ≤ r
  pub unstopped : (plain_run task state (numbers_of sequence)).stop ≡ ended

-- Filling lent tables part by part: the words of each table, in the file's order.
use Rattle.std.specs.Prelude.{ℕ, ◌-◌, ◌*◌, ◌≤◌, List, length, take}
use Rattle.task.specs.declared.Head.{Head}
use Rattle.task.specs.declared.Table.TheVariants.{Formulas, Effects, Operators}
use Rattle.task.specs.Table.{Task, operator_width}
use Rattle.task.specs.Words.{words_of, operator_words}
use Rattle.file_format.specs.Parse.{Parsed, parsed, next, table_read}
use Rattle.file_format.specs.Reading.{initial_read, twin_read}
use Rattle.task_file.specs.Inner.Tables.{words_read}

-- the words of the three tables of rows
pub record RowTables : Type 0 where
  pub formulas : List ℕ
  pub effects : List ℕ
  pub operators : List ℕ

unfoldable pub rows_behind : Head → List ℕ → Parsed RowTables
rows_behind h bytes =
    next (words_read Formulas h h.formulas bytes)
    (λ f rest.
    next (words_read Effects h h.effects rest)
    (λ e rest.
    next (words_read Operators h h.operators rest)
    (λ o. parsed (record { formulas = f; effects = e; operators = o }))))

-- the words of every table
pub record AllTables : Type 0 where
  pub initial : List ℕ
  pub twins : List ℕ
  pub rows : RowTables

unfoldable pub all_behind : Head → List ℕ → Parsed AllTables
all_behind h bytes =
    next (initial_read h.variables bytes)
    (λ i rest.
    next (table_read (twin_read (h.variables - h.twins)) h.twins rest)
    (λ w rest. next (rows_behind h rest) (λ r. parsed (record { initial = i; twins = w; rows = r }))))

-- the words of a task's tables
abbrev pub all_words : Task → AllTables
all_words t =
    record {
      initial = t.initial;
      twins = t.originals;
      rows =
          record {
            formulas = words_of t.formulas;
            effects = words_of t.effects;
            operators = operator_words t.operators;
          };
    }

-- the words in front of lent tables
abbrev pub rows_in : Head → (formulas effects operators : List ℕ) → RowTables
rows_in h formulas effects operators =
    record {
      formulas = take (3 * h.formulas) formulas;
      effects = take (3 * h.effects) effects;
      operators = take (operator_width * h.operators) operators;
    }

abbrev pub all_in : Head → (initial twins formulas effects operators : List ℕ) → AllTables
all_in h initial twins formulas effects operators =
    record { initial = take h.variables initial; twins = take h.twins twins; rows = rows_in h formulas effects operators }

-- the lent tables of rows are long enough
pub record RowsRoom (h : Head) (formulas effects operators : List ℕ) : Type 0 where
  pub formulas_fit : 3 * h.formulas ≤ length formulas
  pub effects_fit : 3 * h.effects ≤ length effects
  pub operators_fit : operator_width * h.operators ≤ length operators

-- every lent table is long enough, and there are no more twins than variables, nor more variables than a task may have
pub record AllRoom (h : Head) (initial twins formulas effects operators : List ℕ) : Type 0 where
  pub initial_fit : h.variables ≤ length initial
  pub twins_fit : h.twins ≤ length twins
  pub rows_fit : RowsRoom h formulas effects operators
  pub few_twins : h.twins ≤ h.variables
  pub few_variables : h.variables ≤ 512

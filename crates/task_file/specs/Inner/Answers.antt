-- What the code's answers stand for: the value and the bytes behind it, or the number of the refusal.
use Rattle.std.specs.Prelude.{ℕ, ◌-◌, ◌*◌, List, ◌++◌, ◌≡◌, length, take, replicate, Result, Ok, Err}
use Rattle.task.specs.declared.Head.{Head}
use Rattle.task.specs.declared.Table.{Table}
use Rattle.task.specs.declared.TableRow.{TableRow}
use Rattle.task.specs.declared.refusal.Refusal.{Refusal}
use Rattle.task.specs.Refused.{number_of}
use Rattle.task.specs.Table.{operator_width}
use Rattle.task.specs.Inner.Tables.{listed}
use Rattle.task_file.specs.declared.read_row.Row.{Row}
use Rattle.task_file.specs.declared.read_row.Row.TheVariants.{Words, NoRow}
use Rattle.file_format.specs.Parse.{Parsed, parsed, unparsed}

-- an answer, and the bytes that are left
abbrev pub parsed_as : {A : Type 0} → Result A Refusal → List ℕ → Parsed A
parsed_as (Ok x) rest = parsed x rest
parsed_as (Err e) rest = unparsed (number_of e)

-- an answer of a call that leaves its value in a table
abbrev pub left_as : {A B : Type 0} → A → Result B Refusal → List ℕ → Parsed A
left_as x (Ok y) rest = parsed x rest
left_as x (Err e) rest = unparsed (number_of e)

-- a row of a table, as its words
abbrev pub words_as : Table → Result TableRow Refusal → List ℕ → Parsed (List ℕ)
words_as table (Ok row) rest = parsed (listed table row) rest
words_as table (Err e) rest = unparsed (number_of e)

abbrev pub row_of : Result TableRow Refusal → Row
row_of (Ok row) = Words row
row_of (Err e) = NoRow e

abbrev pub row_as : Table → Row → List ℕ → Parsed (List ℕ)
row_as table (Words row) rest = parsed (listed table row) rest
row_as table (NoRow e) rest = unparsed (number_of e)

-- a row's refusal, as that of its table
abbrev pub refused_row : Row → Result (Unit {0}) Refusal
refused_row (Words row) = Ok tt
refused_row (NoRow e) = Err e

-- every lent table all 0
pub record Cleared (initial twins formulas effects operators initial' twins' formulas' effects' operators' : List ℕ) : Type 0 where
  pub initial_clear : initial' ≡ replicate (length initial) 0
  pub twins_clear : twins' ≡ replicate (length twins) 0
  pub formulas_clear : formulas' ≡ replicate (length formulas) 0
  pub effects_clear : effects' ≡ replicate (length effects) 0
  pub operators_clear : operators' ≡ replicate (length operators) 0

-- the first n elements of a table, and 0 in all behind them
abbrev pub cleared_behind : ℕ → List ℕ → List ℕ
cleared_behind n table = take n table ++ replicate (length table - n) 0

-- what is lent beyond the counts all 0
pub record ClearedBehind (h : Head) (initial twins formulas effects operators initial' twins' formulas' effects' operators' : List ℕ) : Type 0 where
  pub initial_clear : initial' ≡ cleared_behind h.variables initial
  pub twins_clear : twins' ≡ cleared_behind h.twins twins
  pub formulas_clear : formulas' ≡ cleared_behind (3 * h.formulas) formulas
  pub effects_clear : effects' ≡ cleared_behind (3 * h.effects) effects
  pub operators_clear : operators' ≡ cleared_behind (operator_width * h.operators) operators

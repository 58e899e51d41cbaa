-- Building in parts: what each part asks, and what stands behind it.
use Rattle.std.specs.Prelude.{ℕ, zero, suc, ◌+◌, ◌*◌, ◌≤◌, ◌<◌, ◌≡◌, Bool, true, false, List, length, get_or, Result, Ok, Err}
use Rattle.task.specs.Table.{row_at, operator_width, operator_at}
use Rattle.normal_form.specs.Builder.{St, Build, bind, start, plain}
use Rattle.normal_form.specs.Operators.{Changes}
use Rattle.formula_builder.specs.declared.Frame.{Frame}
use Rattle.formula_builder.specs.declared.NoRoom.{NoRoom}
use Rattle.formula_builder.specs.declared.Builder.{Builder}
use Rattle.formula_builder.specs.Inner.Held.{Size, Step, Store, store, held, size_of, store_in, RowsReady, TwinsNamed, Within}
use Rattle.images.specs.Inner.Images.{image_at, Source}
use Rattle.conditions.specs.Inner.Conditions.{EffectSource}
use Rattle.variable_changes.specs.Inner.Stands.{Stands, Leaves}
use Rattle.change_records.specs.Inner.Recorded.{acting, changes_from}
use Rattle.operators.specs.Inner.Operator.{operator_here, operators_built}
use Rattle.conditions.specs.declared.ConditionBuilder.{ConditionBuilder}
use Rattle.building.specs.declared.Progress.{Progress as Answer}

-- What stands between two parts: so many rows and twins, so many operators taken and changes recorded; or that there was no room.
pub record Progress : Type 0 where
  pub rows : ℕ
  pub twins : ℕ
  pub operators : ℕ
  pub records : ℕ
  pub full : Bool

abbrev pub size_at : Progress → Size
size_at p = record { rows = p.rows; twins = p.twins }

-- the answer without room, so many operators taken
abbrev pub stopped : ℕ → Progress
stopped n = record { rows = 0; twins = 0; operators = n; records = 0; full = true }

-- the progress at a builder, and after a part that left one and answered so, with so many operators taken if there was no room
abbrev pub progress_at : Builder → Answer → Progress
progress_at b x = record { rows = b.rows; twins = b.twins; operators = x.operators; records = x.records; full = false }

abbrev pub progress_by : Builder → ℕ → Result Answer NoRoom → Progress
progress_by b n (Ok x) = progress_at b x
progress_by b n (Err e) = stopped n

-- all words are 0
abbrev pub Zeros : List ℕ → Type 0
Zeros l = (j : ℕ) → get_or l j 0 ≡ 0

-- A formula table that nothing stands in, with room for the frame's rows and their index, and a word for each variable.
pub record Fresh (frame : Frame) (table : List ℕ) : Type 0 where
  pub room : 9 * frame.rows + frame.variables ≤ length table
  pub limit : frame.rows ≤ 4096
  pub blank : Zeros table

-- What the start has stands in the table, whatever stands among the twins. Which words index it is left open, as in `FirstTwo`.
pub record Started (frame : Frame) (table : List ℕ) (p : Progress) : Type 0 where
  pub state : (originals : List ℕ) → start ≡ held (size_at p) (store table originals)
  pub rows : RowsReady frame.rows p.rows table
  pub two : 2 ≤ p.rows
  pub twins : p.twins ≡ 0
  pub named : (originals : List ℕ) → TwinsNamed frame (size_at p) (store table originals)

-- It stands there, or there is no room for it, and the table is as it was; no operator is taken.
pub record Begun (frame : Frame) (before table : List ℕ) (p : Progress) : Type 0 where
  pub none : p.operators ≡ 0
  pub no_records : p.records ≡ 0
  pub done : p.full ≡ false → Started frame table p
  pub over : p.full ≡ true → Within frame start → ⊥
  pub answer : p.full ≡ true → p ≡ stopped 0
  pub untouched : p.full ≡ true → table ≡ before

-- The source keeps the rules, scratch is all 0, and there are no twins.
pub record Blank (frame : Frame) (formulas effects originals scratch : List ℕ) : Type 0 where
  pub source : Source frame formulas scratch
  pub effect_source : EffectSource frame effects scratch
  pub twins : frame.twins ≤ length originals
  pub variables : frame.variables + frame.twins ≤ 512
  pub blank_originals : Zeros originals
  pub blank_scratch : Zeros scratch

-- The tables hold a state, and building may go on.
pub record Stood (t : St) (frame : Frame) (formulas effects : List ℕ) (at : Size) (s : Store) (scratch : List ℕ) : Type 0 where
  pub state : t ≡ held at s
  pub stands : Stands frame formulas effects at s scratch

-- Of operator o, built where those before it are: the row of its precondition, and its changes.
unfoldable pub precondition_here : Frame → List ℕ → List ℕ → List ℕ → ℕ → ℕ
precondition_here frame formulas effects operators o =
    (image_at frame formulas plain (operator_at operators o).precondition (operators_built frame formulas effects operators o start).st).value

unfoldable pub changes_here : Frame → List ℕ → List ℕ → List ℕ → ℕ → List Changes
changes_here frame formulas effects operators o =
    (operator_here frame formulas effects operators o (operators_built frame formulas effects operators o start).st).value

-- how many changes of the first n operators bring rules
unfoldable pub many : Frame → List ℕ → List ℕ → List ℕ → ℕ → ℕ
many frame formulas effects operators zero = 0
many frame formulas effects operators (suc n) =
    many frame formulas effects operators n + length (acting (changes_here frame formulas effects operators n))

-- Operator o is recorded: its precondition, where its changes end, and the changes that bring rules.
pub record Kept (frame : Frame) (formulas effects operators records : List ℕ) (o : ℕ) : Type 0 where
  pub precondition : (row_at records o).kind ≡ precondition_here frame formulas effects operators o
  pub end : (row_at records o).a ≡ many frame formulas effects operators (suc o)
  pub changes :
      changes_from records (many frame formulas effects operators o) (length (acting (changes_here frame formulas effects operators o)))
      ≡ acting (changes_here frame formulas effects operators o)

-- The first n are, with so many changes.
pub record AllKept (frame : Frame) (formulas effects operators records : List ℕ) (n k : ℕ) : Type 0 where
  pub count : k ≡ many frame formulas effects operators n
  pub limit : k ≤ 2048
  pub each : (o : ℕ) → o < n → Kept frame formulas effects operators records o

-- So many operators are taken: the tables hold what building them gives from the start, and each is recorded; or there is no room for it. Then tables,
-- memos and records are left open; otherwise only which words index, memos and notes have, if they are right (`Builds` says why), and the
-- records behind those of these operators, which nothing reads.
pub record Taken (frame : Frame) (formulas effects operators : List ℕ) (s : Store) (scratch records : List ℕ) (p : Progress) : Type 0 where
  pub done :
      p.full ≡ false
      → Stood (operators_built frame formulas effects operators p.operators start).st frame formulas effects (size_at p) s scratch
  pub kept : p.full ≡ false → AllKept frame formulas effects operators records p.operators p.records
  pub over :
      p.full ≡ true
      → Within frame (operators_built frame formulas effects operators p.operators start).st
      → many frame formulas effects operators p.operators ≤ 2048
      → ⊥

-- There is a next operator, and the notes are right unless there is no room.
pub record Takes (frame : Frame) (formulas effects notes operators : List ℕ) (s : Store) (scratch records : List ℕ) (p : Progress) : Type 0 where
  pub taken : Taken frame formulas effects operators s scratch records p
  pub leaves : Leaves p.full frame formulas effects notes (size_at p) s
  pub words : operator_width * p.operators + operator_width ≤ length operators
  pub limit : p.operators < 256
  pub room : 6912 ≤ length records
  pub precondition : (operator_at operators p.operators).precondition < frame.formulas
  pub effect : (operator_at operators p.operators).effect < frame.effects

-- It is taken, or there is no room: then the answer says so.
pub record Took (frame : Frame) (formulas effects operators : List ℕ) (s : Store) (scratch records : List ℕ) (p r : Progress) : Type 0 where
  pub next : r.operators ≡ p.operators + 1
  pub taken : Taken frame formulas effects operators s scratch records r
  pub answer : r.full ≡ true → r ≡ stopped (p.operators + 1)

-- the operators in order, the goal last
unfoldable pub whole_built : Frame → List ℕ → List ℕ → List ℕ → ℕ → ℕ → Build ℕ
whole_built frame formulas effects operators count goal =
    bind (operators_built frame formulas effects operators count) (λ _. image_at frame formulas plain goal)

-- All of it stands, the goal being the last row that was built or found, and each operator is recorded.
pub record Whole (frame : Frame) (formulas effects operators : List ℕ) (count goal : ℕ) (s : Store) (scratch records : List ℕ) (r : Step) : Type 0 where
  pub value : (whole_built frame formulas effects operators count goal start).value ≡ r.row
  pub stood : Stood (whole_built frame formulas effects operators count goal start).st frame formulas effects (size_of r) s scratch
  pub kept : AllKept frame formulas effects operators records count (many frame formulas effects operators count)

-- It does, or there is no room for it.
pub record FromStart (frame : Frame) (formulas effects operators : List ℕ) (count goal : ℕ) (s : Store) (scratch records : List ℕ) (r : Step) : Type 0 where
  pub done : r.full ≡ false → Whole frame formulas effects operators count goal s scratch records r
  pub over :
      r.full ≡ true
      → Within frame (whole_built frame formulas effects operators count goal start).st
      → many frame formulas effects operators count ≤ 2048
      → ⊥

-- what taking an operator asks of a builder of conditions, and what it leaves
abbrev pub TakesBy : ConditionBuilder → (operators records : List ℕ) → Answer → Type 0
TakesBy b operators records x =
    Takes b.images.builder.frame b.images.formulas.now b.effects.now b.notes.now operators (store_in b.images.builder)
    b.images.scratch.now records (progress_at b.images.builder x)

abbrev pub TookBy : (b c : ConditionBuilder) → (operators records : List ℕ) → Answer → Progress → Type 0
TookBy b c operators records x r =
    Took b.images.builder.frame b.images.formulas.now b.effects.now operators (store_in c.images.builder) c.images.scratch.now records
    (progress_at b.images.builder x) r

-- Writing the rules of the operators from what was recorded: what it asks, and what it leaves.
use Rattle.std.specs.Prelude.{ℕ, zero, suc, ◌+◌, ◌-◌, ◌*◌, ◌≤◌, ◌<◌, ◌≡◌, List, length, get_or, replicate, Result, MatchResult}
use Rattle.task.specs.Bounded.{upto}
use Rattle.task.specs.Table.{Row, row_at, Operator, operator_width, operator_at}
use Rattle.task.specs.Words.{words_of, operator_words, padded}
use Rattle.normal_form.specs.Operators.{Changes, Built}
use Rattle.normal_form.specs.Assembly.{Assembled, assemble_operator, assemble, unassembled}
use Rattle.rule_writer.specs.declared.Chain.{Chain}
use Rattle.rule_writer.specs.declared.Frame.{Frame}
use Rattle.rule_writer.specs.Inner.Writes.{FrameReady}
use Rattle.rule_writer.specs.Inner.Places.{Placed, begun}
use Rattle.change_records.specs.Inner.Recorded.{change_at, changes_from}

-- the changes recorded from k up to an end
unfoldable pub changes_between : List ℕ → ℕ → ℕ → List Changes
changes_between records k end = changes_from records k (end - k)

-- an operator whose record is w: the row of its precondition, and where its changes end
unfoldable pub built_of : List ℕ → Row → ℕ → Operator → Built
built_of records w k source =
    record { precondition = w.kind; changes = changes_between records k w.a; source = source }

-- the changes of an operator begin where those of the one before it end
unfoldable pub begins_at : List ℕ → ℕ → ℕ
begins_at records zero = 0
begins_at records (suc o) = (row_at records o).a

-- operator o
unfoldable pub built_in : List ℕ → List ℕ → ℕ → Built
built_in operators records o = built_of records (row_at records o) (begins_at records o) (operator_at operators o)

-- the tables that assembling the first n operators gives, over so many source variables and these twins
unfoldable pub assembled_in : ℕ → List ℕ → List ℕ → List ℕ → ℕ → Assembled
assembled_in variables twins operators records n = assemble variables twins unassembled (upto n (built_in operators records))

-- The changes recorded from k up to an end stand in order, within the records, and are of variables below n.
pub record InOrder (n : ℕ) (records : List ℕ) (k end : ℕ) : Type 0 where
  pub order : k ≤ end
  pub limit : end ≤ 2048
  pub below : (i : ℕ) → k ≤ i → i < end → (change_at records i).variable < n

-- what holds of any twins that have these places
abbrev pub ForTwins : Frame → List ℕ → (List ℕ → Type 0) → Type 0
ForTwins frame places P = (twins : List ℕ) → Placed frame.variables frame.twins twins places → P twins

pub record WritesRecords (frame : Frame) (records places : List ℕ) (k end : ℕ) (chain : Chain) (out : List ℕ) : Type 0 where
  pub ready : FrameReady frame chain out
  pub each_placed : frame.variables ≤ length places
  pub room : 6912 ≤ length records
  pub in_order : InOrder frame.variables records k end

pub record WritesOperator (frame : Frame) (source records places : List ℕ) (w : Row) (o k rows : ℕ) (out written : List ℕ) : Type 0 where
  pub changes : WritesRecords frame records places k w.a (begun rows) out
  pub words : operator_width * o + operator_width ≤ length source
  pub space : operator_width * o + operator_width ≤ length written

-- The tables hold what is assembled, so many effect rows and so many operators, and 0 in all past it.
pub record Holding (w : Assembled) (rows count : ℕ) (effects operators : List ℕ) : Type 0 where
  pub effect_rows : length w.effects ≡ rows
  pub operator_rows : length w.operators ≡ count
  pub effect_words : effects ≡ padded (length effects) (words_of w.effects)
  pub held_operators : operators ≡ padded (length operators) (operator_words w.operators)

-- Operator o is written behind those before it.
pub record WroteRow (b : Built) (n : ℕ) (twins : List ℕ) (rows o : ℕ) (out out' operators operators' : List ℕ) (r : ℕ) : Type 0 where
  pub done :
      (w : Assembled)
      → Holding w rows o out operators
      → Holding (assemble_operator n twins w b) r (o + 1) out' operators'

-- Its rules have no room.
pub record OverfullRow (b : Built) (n : ℕ) (twins : List ℕ) (room rows o : ℕ) (out operators : List ℕ) : Type 0 where
  pub over :
      (w : Assembled)
      → Holding w rows o out operators
      → length (assemble_operator n twins w b).effects ≤ room
      → ⊥

abbrev pub WritesRow : {E : Type 0} → Built → ℕ → List ℕ → (room rows o : ℕ) → (out out' operators operators' : List ℕ) → Result ℕ E → Type 0
WritesRow b n twins room rows o out out' operators operators' r =
    MatchResult r (λ stand. WroteRow b n twins rows o out out' operators operators' stand)
    (λ _. OverfullRow b n twins room rows o out operators)

pub record Assembles (frame : Frame) (operators records : List ℕ) (count : ℕ) (out written : List ℕ) : Type 0 where
  pub words : operator_width * count ≤ length operators
  pub limit : count ≤ 256
  pub room : 6912 ≤ length records
  pub in_order : (o : ℕ) → o < count → InOrder frame.variables records (begins_at records o) (row_at records o).a
  pub variables : frame.variables + frame.twins ≤ 512
  pub one : 1 ≤ frame.room
  pub rows_limit : frame.room ≤ 4096
  pub space : 3 * frame.room ≤ length out
  pub operator_space : operator_width * count ≤ length written
  pub blank : out ≡ replicate (length out) 0
  pub blank_operators : written ≡ replicate (length written) 0

-- The twins are there, each one's original a source variable.
pub record Twinned (frame : Frame) (originals : List ℕ) : Type 0 where
  pub twins : frame.twins ≤ length originals
  pub below : (k : ℕ) → k < frame.twins → get_or originals k 0 < frame.variables

-- All operators are written, with so many effect rows.
pub record Written (w : Assembled) (room count : ℕ) (out operators : List ℕ) (rows : ℕ) : Type 0 where
  pub done : Holding w rows count out operators
  pub within : rows ≤ room

-- All operators are written, or their rules have no room. Then it is left open what stands in both tables, as in `Writes`.
abbrev pub AssembledAll : {E : Type 0} → Assembled → (room count : ℕ) → (out operators : List ℕ) → Result ℕ E → Type 0
AssembledAll w room count out operators r =
    MatchResult r (λ rows. Written w room count out operators rows) (λ _. length w.effects ≤ room → ⊥)

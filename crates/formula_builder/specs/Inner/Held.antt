-- What lent tables hold of a builder's state, and what a step of the code answers: what the definition gives, or that it does not fit.
use Rattle.std.specs.Prelude.{ℕ, suc, ◌+◌, ◌*◌, ◌≤◌, ◌<◌, ◌≡◌, Bool, true, false, List, length, get_or, take, eqb, Result, Ok, Err}
use Rattle.task.specs.Bounded.{upto}
use Rattle.task.specs.Table.{Row, row_at}
use Rattle.normal_form.specs.Builder.{St, Build, place, Polarity, plain, negated}
use Rattle.formula_builder.specs.Inner.Index.{Indexed}
use Rattle.formula_builder.specs.declared.Words.{Words}
use Rattle.formula_builder.specs.declared.Frame.{Frame}
use Rattle.formula_builder.specs.declared.NoRoom.{NoRoom}
use Rattle.formula_builder.specs.declared.Builder.{Builder}

abbrev pub row_of : Words → Row
row_of w = record { kind = w.kind; a = w.a; b = w.b }

-- the polarity that a flag stands for
abbrev pub side : Bool → Polarity
side false = plain
side true = negated

-- How many rows and twins stand.
pub record Size : Type 0 where
  pub rows : ℕ
  pub twins : ℕ

-- A step from one size to another: the size after it and the row that it built; or that there was no room.
pub record Step : Type 0 where
  pub rows : ℕ
  pub twins : ℕ
  pub row : ℕ
  pub full : Bool

-- The two tables that building writes: formula words, and originals of twins.
pub record Store : Type 0 where
  pub table : List ℕ
  pub originals : List ℕ

abbrev pub store : List ℕ → List ℕ → Store
store t o = record { table = t; originals = o }

-- the builder's state that the tables hold
unfoldable pub held : Size → Store → St
held at s = record { rows = upto at.rows (row_at s.table); twins = take at.twins s.originals }

abbrev pub size_of : Step → Size
size_of r = record { rows = r.rows; twins = r.twins }

-- a size by its two counts, of rows and of twins
abbrev pub sized : ℕ → ℕ → Size
sized n w = record { rows = n; twins = w }

-- a step that answers row x and adds nothing, and one for which there is no room
abbrev pub done_step : Size → ℕ → Step
done_step at x = record { rows = at.rows; twins = at.twins; row = x; full = false }

abbrev pub full_step : Size → Step
full_step at = record { rows = at.rows; twins = at.twins; row = 65535; full = true }

-- what a builder holds
abbrev pub size_in : Builder → Size
size_in b = sized b.rows b.twins

abbrev pub store_in : Builder → Store
store_in b = store b.table.now b.originals.now

-- the step that left a builder and answered so
abbrev pub step_by : Builder → Result ℕ NoRoom → Step
step_by b (Ok x) = done_step (size_in b) x
step_by b (Err e) = full_step (size_in b)

-- whether there was no room
abbrev pub full_by : {A : Type 0} → Result A NoRoom → Bool
full_by (Ok x) = false
full_by (Err e) = true

-- The table has room for so many rows and their index, no more stand, and the index finds them.
pub record RowsReady (most stand : ℕ) (table : List ℕ) : Type 0 where
  pub within : stand ≤ most
  pub some : 0 < most
  pub limit : most ≤ 4096
  pub room : 9 * most ≤ length table
  pub index : Indexed most stand table

-- Beside false and true, the two rows stand that are to be joined.
pub record JoinReady (most stand : ℕ) (table : List ℕ) (a b : ℕ) : Type 0 where
  pub rows : RowsReady most stand table
  pub two : 2 ≤ stand
  pub left : a < stand
  pub right : b < stand

-- the row of a variable
abbrev pub variable_of : ℕ → Row
variable_of v = record { kind = 2; a = v; b = 0 }

-- the word of a variable, behind the index
abbrev pub twin_word : Frame → ℕ → ℕ
twin_word frame v = 9 * frame.rows + v

-- where the twin of a variable stands among the twins that are held; behind them, if it has none
abbrev pub twin_place : Size → Store → ℕ → ℕ
twin_place at s v = place eqb v (take at.twins s.originals)

-- The word of each variable names the row of its twin, by its number and 1; 0 says that it has no twin.
pub record TwinsNamed (frame : Frame) (at : Size) (s : Store) : Type 0 where
  pub room : 9 * frame.rows + frame.variables ≤ length s.table
  pub stands :
      (v r : ℕ)
      → v < frame.variables
      → get_or s.table (twin_word frame v) 0 ≡ suc r
      → (twin_place at s v < at.twins) × (row_at s.table r ≡ variable_of (frame.variables + twin_place at s v))
  pub missing :
      (v : ℕ) → v < frame.variables → get_or s.table (twin_word frame v) 0 ≡ 0 → twin_place at s v ≡ at.twins

-- Both tables are ready: false and true stand, the twins' rows are named, and behind the twins all words are 0.
pub record Ready (frame : Frame) (at : Size) (s : Store) : Type 0 where
  pub rows : RowsReady frame.rows at.rows s.table
  pub two : 2 ≤ at.rows
  pub twins : at.twins ≤ frame.twins
  pub originals : frame.twins ≤ length s.originals
  pub variables : frame.variables + frame.twins ≤ 512
  pub past_twins : (j : ℕ) → at.twins ≤ j → get_or s.originals j 0 ≡ 0
  pub named : TwinsNamed frame at s

abbrev pub BuilderReady : Builder → Type 0
BuilderReady b = Ready b.frame (size_in b) (store_in b)

-- A state within the frame.
pub record Within (frame : Frame) (s : St) : Type 0 where
  pub rows : length s.rows ≤ frame.rows
  pub twins : length s.twins ≤ frame.twins

-- A step that is done: the tables hold what the definition gives, and the answer is its value.
pub record Done (m : Build ℕ) (frame : Frame) (at : Size) (before after : Store) (r : Step) : Type 0 where
  pub value : (m (held at before)).value ≡ r.row
  pub state : (m (held at before)).st ≡ held (size_of r) after
  pub ready : Ready frame (size_of r) after
  pub below : r.row < r.rows
  pub grew : at.rows ≤ r.rows

-- A step is done, or there is no room and what the definition gives is not within the frame. Two things are left open, as nothing that compiling
-- gives depends on them: which words the index has, if it finds the rows (`Indexed`); and, once there is no room, which rows and twins stand, if
-- both tables are still ready: every caller then says so in its turn, up to `compile`, which leaves all tables 0 (`compiling`).
pub record Builds (m : Build ℕ) (frame : Frame) (at : Size) (before after : Store) (r : Step) : Type 0 where
  pub done : r.full ≡ false → Done m frame at before after r
  pub over : r.full ≡ true → Within frame (m (held at before)).st → ⊥
  pub still : r.full ≡ true → Ready frame (size_of r) after

-- A builder stays the same one: its frame, and which tables it has.
pub record Same (b c : Builder) : Type 0 where
  pub frame : c.frame ≡ b.frame
  pub table : c.table.ghost_name ≡ b.table.ghost_name
  pub table_length : length c.table.now ≡ length b.table.now
  pub originals : c.originals.ghost_name ≡ b.originals.ghost_name
  pub originals_length : length c.originals.now ≡ length b.originals.now

-- A step of a builder, and what it answers.
pub record Built (m : Build ℕ) (b c : Builder) (r : Result ℕ NoRoom) : Type 0 where
  pub builds : Builds m b.frame (size_in b) (store_in b) (store_in c) (step_by c r)
  pub same : Same b c

-- It leaves the twins as they were.
pub record SameTwins (b c : Builder) : Type 0 where
  pub count : c.twins ≡ b.twins
  pub originals : c.originals.now ≡ b.originals.now

-- Writing the finished task from what was built: what it asks, and what it leaves.
use Rattle.std.specs.Prelude.{ℕ, ◌+◌, ◌*◌, ◌≤◌, ◌≡◌, List, ◌++◌, length, take, drop, Result, Ok, Err}
use Rattle.normal_form.specs.Assembly.{Assembled}
use Rattle.normal_form.specs.Finished.{twin_values}
use Rattle.formula_builder.specs.Inner.Held.{Step}
use Rattle.rule_writer.specs.declared.Frame.{Frame}
use Rattle.rule_writer.specs.Inner.Writes.{InitialReady}
use Rattle.assembling.specs.Inner.Assembles.{assembled_in, Holding, Assembles, Twinned}
use Rattle.compile_parts.specs.declared.Counts.{Counts}
use Rattle.compile_parts.specs.declared.Filled.{Filled}

-- the five tables that are written: initial values, twins, formulas, effects, operators
pub record Outputs : Type 0 where
  pub values : List ℕ
  pub twins : List ℕ
  pub table : List ℕ
  pub effects : List ℕ
  pub operators : List ℕ

abbrev pub outputs : (values twins table effects operators : List ℕ) → Outputs
outputs v w t e o = record { values = v; twins = w; table = t; effects = e; operators = o }

-- the counts of rules: source variables, the twins that were built, and room for effect rows
abbrev pub rules_frame : Counts → Step → Frame
rules_frame c w = record { variables = c.frame.variables; twins = w.twins; room = c.room }

-- the rules and operators that are to be written, from what was recorded
abbrev pub rules_of : Counts → Step → (operators originals records : List ℕ) → Assembled
rules_of c w operators originals records =
    assembled_in c.frame.variables (take w.twins originals) operators records c.operators

-- What was built stands; the tables for rules and operators are all 0, and there is room for operators, initial values and rows.
pub record Stands (c : Counts) (w : Step) (initial operators originals built records : List ℕ) (x : Outputs) : Type 0 where
  pub assembles : Assembles (rules_frame c w) operators records c.operators x.effects x.operators
  pub twinned : Twinned (rules_frame c w) originals
  pub initial_ready : InitialReady initial originals x.values c.frame.variables w.twins
  pub limit : w.rows ≤ 4096
  pub there : 3 * w.rows ≤ length built
  pub space : 3 * w.rows ≤ length x.table
  pub twins_space : w.twins ≤ length x.twins

-- All is written.
pub record Ended (c : Counts) (w : Step) (initial operators originals built records : List ℕ) (x y : Outputs) (r : Filled) : Type 0 where
  pub holding : Holding (rules_of c w operators originals records) r.effects c.operators y.effects y.operators
  pub within : r.effects ≤ c.room
  pub values :
      y.values
      ≡ (take c.frame.variables initial ++ twin_values (take c.frame.variables initial) (take w.twins originals))
      ++ drop (c.frame.variables + w.twins) x.values
  pub table : y.table ≡ take (3 * w.rows) built ++ drop (3 * w.rows) x.table
  pub twins : y.twins ≡ take w.twins originals ++ drop w.twins x.twins
  pub answer : r ≡ record { rows = w.rows; twins = w.twins; effects = r.effects; goal = w.row }

-- There is no room for the rules. The tables of initial values, of twins and of formulas, which are written last, stay; what stands in
-- the other two is left open, since `compile` then clears them.
pub record Lacks (c : Counts) (w : Step) (operators originals records : List ℕ) (x y : Outputs) : Type 0 where
  pub misfit : length (rules_of c w operators originals records).effects ≤ c.room → ⊥
  pub values : y.values ≡ x.values
  pub table : y.table ≡ x.table
  pub twins : y.twins ≡ x.twins

abbrev pub Finished : {E : Type 0} → Counts → Step → (initial operators originals built records : List ℕ) → Outputs → Outputs → Result Filled E → Type 0
Finished c w initial operators originals built records x y (Ok r) = Ended c w initial operators originals built records x y r
Finished c w initial operators originals built records x y (Err e) = Lacks c w operators originals records x y

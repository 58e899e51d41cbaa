-- Writing all of the finished task but its table of twins: what it asks, and what it leaves.
use Rattle.std.specs.Prelude.{ℕ, ◌+◌, ◌*◌, ◌≤◌, ◌≡◌, List, ◌++◌, length, take, drop, Result, Ok, Err}
use Rattle.normal_form.specs.Finished.{twin_values}
use Rattle.formula_builder.specs.Inner.Held.{Step}
use Rattle.rule_writer.specs.Inner.Writes.{InitialReady}
use Rattle.assembling.specs.Inner.Assembles.{Holding, Assembles, Twinned}
use Rattle.compile_parts.specs.declared.Counts.{Counts}
use Rattle.compile_parts.specs.declared.Filled.{Filled}
use Rattle.compile_parts.specs.Inner.Finishes.{rules_frame, rules_of}

-- the four tables that are written: initial values, formulas, effects, operators
pub record BareOutputs : Type 0 where
  pub values : List ℕ
  pub table : List ℕ
  pub effects : List ℕ
  pub operators : List ℕ

abbrev pub bare_outputs : (values table effects operators : List ℕ) → BareOutputs
bare_outputs v t e o = record { values = v; table = t; effects = e; operators = o }

-- What was built stands; the tables for rules and operators are all 0, and there is room for operators, initial values and rows.
pub record BareStands (c : Counts) (w : Step) (initial operators originals built records : List ℕ) (x : BareOutputs) : Type 0 where
  pub assembles : Assembles (rules_frame c w) operators records c.operators x.effects x.operators
  pub twinned : Twinned (rules_frame c w) originals
  pub initial_ready : InitialReady initial originals x.values c.frame.variables w.twins
  pub limit : w.rows ≤ 4096
  pub there : 3 * w.rows ≤ length built
  pub space : 3 * w.rows ≤ length x.table

-- All is written.
pub record BareEnded (c : Counts) (w : Step) (initial operators originals built records : List ℕ) (x y : BareOutputs) (r : Filled) : Type 0 where
  pub holding : Holding (rules_of c w operators originals records) r.effects c.operators y.effects y.operators
  pub within : r.effects ≤ c.room
  pub values :
      y.values
      ≡ (take c.frame.variables initial ++ twin_values (take c.frame.variables initial) (take w.twins originals))
      ++ drop (c.frame.variables + w.twins) x.values
  pub table : y.table ≡ take (3 * w.rows) built ++ drop (3 * w.rows) x.table
  pub answer : r ≡ record { rows = w.rows; twins = w.twins; effects = r.effects; goal = w.row }

-- There is no room for the rules. The tables of initial values and of formulas, which are written last, stay; what stands in
-- the other two is left open, since `compile` then clears them.
pub record BareLacks (c : Counts) (w : Step) (operators originals records : List ℕ) (x y : BareOutputs) : Type 0 where
  pub misfit : length (rules_of c w operators originals records).effects ≤ c.room → ⊥
  pub values : y.values ≡ x.values
  pub table : y.table ≡ x.table

abbrev pub BareFinished : {E : Type 0} → Counts → Step → (initial operators originals built records : List ℕ) → BareOutputs → BareOutputs → Result Filled E → Type 0
BareFinished c w initial operators originals built records x y (Ok r) = BareEnded c w initial operators originals built records x y r
BareFinished c w initial operators originals built records x y (Err e) = BareLacks c w operators originals records x y

-- Building all formulas and twins: what it asks. What it leaves is `FromStart`, of crate building.
use Rattle.std.specs.Prelude.{ℕ, ◌*◌, ◌≤◌, ◌<◌, List, length}
use Rattle.task.specs.Table.{operator_width, operator_at}
use Rattle.formula_builder.specs.declared.Frame.{Frame}
use Rattle.atom_sets.specs.Inner.Sets.{sets_end}
use Rattle.conditions.specs.declared.ConditionBuilder.{ConditionBuilder}
use Rattle.building.specs.Inner.Taken.{Zeros, Fresh, Blank}

-- The source keeps the rules; twins, scratch, notes and the table in which rows are built are all 0, with room for all; so there is for records.
pub record Builds (frame : Frame) (count row : ℕ) (formulas effects operators originals scratch notes built records : List ℕ) : Type 0 where
  pub blank : Blank frame formulas effects originals scratch
  pub words : operator_width * count ≤ length operators
  pub limit : count ≤ 256
  pub precondition : (o : ℕ) → o < count → (operator_at operators o).precondition < frame.formulas
  pub effect : (o : ℕ) → o < count → (operator_at operators o).effect < frame.effects
  pub goal : row < frame.formulas
  pub notes_space : sets_end frame ≤ length notes
  pub blank_notes : Zeros notes
  pub fresh : Fresh frame built
  pub space : 6912 ≤ length records

-- the same of a builder of conditions
abbrev pub BuildsBy : ConditionBuilder → (count goal : ℕ) → (operators records : List ℕ) → Type 0
BuildsBy b count goal operators records =
    Builds b.images.builder.frame count goal b.images.formulas.now b.effects.now operators b.images.builder.originals.now b.images.scratch.now
    b.notes.now b.images.builder.table.now records

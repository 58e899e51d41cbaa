-- What building one operator asks and gives.
use Rattle.std.specs.Prelude.{ℕ, ◌+◌, ◌≤◌, ◌<◌, ◌≡◌, Bool, true, false, List, length, Result, Ok, Err}
use Rattle.normal_form.specs.Builder.{Build, bind, each, plain}
use Rattle.normal_form.specs.Operators.{Changes, changes_of}
use Rattle.formula_builder.specs.declared.Frame.{Frame}
use Rattle.formula_builder.specs.declared.NoRoom.{NoRoom}
use Rattle.formula_builder.specs.Inner.Held.{Size, Store, held, size_in, store_in}
use Rattle.images.specs.Inner.Images.{image_at}
use Rattle.conditions.specs.Inner.Conditions.{effect_tree}
use Rattle.task.specs.Table.{operator_at}
use Rattle.variable_changes.specs.Inner.Stands.{StandsAt, Reaches}
use Rattle.atom_sets.specs.Inner.Sets.{lacks, sets_end}
use Rattle.change_records.specs.Inner.Recorded.{Recorded}
use Rattle.conditions.specs.declared.ConditionBuilder.{ConditionBuilder}
use Rattle.operators.specs.declared.Tally.{Tally as Answer}

-- the changes of the variables below v
unfoldable pub all_changes : Frame → List ℕ → List ℕ → ℕ → ℕ → Build (List Changes)
all_changes frame formulas effects e v = each v (changes_of frame.variables (effect_tree frame formulas effects e))

-- the precondition, then all changes
unfoldable pub operator_built : Frame → List ℕ → List ℕ → ℕ → ℕ → Build (List Changes)
operator_built frame formulas effects p e =
    bind (image_at frame formulas plain p) (λ f. all_changes frame formulas effects e frame.variables)

-- Of k variables from v on effect e names no atom; if k is 0, it names one of v.
pub record Passes (frame : Frame) (notes : List ℕ) (e v k : ℕ) : Type 0 where
  pub passed : (clear : Bool) (u : ℕ) → v ≤ u → u < v + k → lacks frame notes clear u e ≡ true
  pub most : k ≤ 8
  pub stopped : k ≡ 0 → ((clear : Bool) → lacks frame notes clear v e ≡ true) → ⊥

-- What looking for the next variable asks.
pub record LooksOn (frame : Frame) (notes : List ℕ) (e from : ℕ) : Type 0 where
  pub variables : frame.variables ≤ 512
  pub limit : frame.effects ≤ 4096
  pub effect : e < frame.effects
  pub words : sets_end frame ≤ length notes
  pub from_most : from ≤ frame.variables

-- The first variable from one on of which effect e names an atom; V if there is none.
pub record NextTouched (frame : Frame) (notes : List ℕ) (e from next : ℕ) : Type 0 where
  pub above : from ≤ next
  pub below : next ≤ frame.variables
  pub passed : (clear : Bool) (v : ℕ) → from ≤ v → v < next → lacks frame notes clear v e ≡ true
  pub stopped : next < frame.variables → ((clear : Bool) → lacks frame notes clear next e ≡ true) → ⊥

pub record BuildsOperator (frame : Frame) (formulas effects notes : List ℕ) (at : Size) (s : Store) (scratch : List ℕ) (p e : ℕ) : Type 0 where
  pub stands : StandsAt frame formulas effects notes at s scratch e
  pub formula : p < frame.formulas

-- What an operator's step answers: so many rows and twins stand, the row of the precondition, and so many changes are recorded; or there was no room.
pub record Tally : Type 0 where
  pub rows : ℕ
  pub twins : ℕ
  pub row : ℕ
  pub records : ℕ
  pub full : Bool

abbrev pub size_behind : Tally → Size
size_behind r = record { rows = r.rows; twins = r.twins }

-- A step whose value is changes: it reaches its state, and the changes are recorded. Without room all is left open, as in `Reaches`.
pub record Walked (m : Build (List Changes)) (frame : Frame) (formulas effects : List ℕ) (at : Size) (before after : Store) (scratch : List ℕ) (from : ℕ) (records records' : List ℕ) (r : Tally) : Type 0 where
  pub reaches : Reaches m frame formulas effects at before after scratch r.full (size_behind r)
  pub recorded : r.full ≡ false → Recorded (m (held at before)).value from records records' r.records

-- An operator: and the row of its precondition.
pub record OperatorWalked (frame : Frame) (formulas effects : List ℕ) (p e : ℕ) (at : Size) (before after : Store) (scratch : List ℕ) (from : ℕ) (records records' : List ℕ) (r : Tally) : Type 0 where
  pub walked : Walked (operator_built frame formulas effects p e) frame formulas effects at before after scratch from records records' r
  pub precondition : r.full ≡ false → (image_at frame formulas plain p (held at before)).value ≡ r.row

-- operator o
unfoldable pub operator_here : Frame → List ℕ → List ℕ → List ℕ → ℕ → Build (List Changes)
operator_here frame formulas effects operators o =
    let source = operator_at operators o in
    operator_built frame formulas effects source.precondition source.effect

-- the first n operators
unfoldable pub operators_built : Frame → List ℕ → List ℕ → List ℕ → ℕ → Build (List (List Changes))
operators_built frame formulas effects operators n = each n (operator_here frame formulas effects operators)

-- the tally that left a builder of conditions and answered so: of the changes alone, and of the whole operator
abbrev pub tally_at : ConditionBuilder → (row records : ℕ) → Bool → Tally
tally_at b row records full =
    record { rows = b.images.builder.rows; twins = b.images.builder.twins; row = row; records = records; full = full }

abbrev pub tally_by : ConditionBuilder → Result ℕ NoRoom → Tally
tally_by b (Ok k) = tally_at b 0 k false
tally_by b (Err e) = tally_at b 0 0 true

abbrev pub tally_of : ConditionBuilder → Result Answer NoRoom → Tally
tally_of b (Ok x) = tally_at b x.row x.records false
tally_of b (Err e) = tally_at b 0 0 true

-- what building an operator asks of a builder of conditions, and what it builds and records
abbrev pub BuildsBy : ConditionBuilder → (p e : ℕ) → Type 0
BuildsBy b p e =
    BuildsOperator b.images.builder.frame b.images.formulas.now b.effects.now b.notes.now (size_in b.images.builder)
    (store_in b.images.builder) b.images.scratch.now p e

abbrev pub changes_of_all : ConditionBuilder → ℕ → Build (List Changes)
changes_of_all b e = all_changes b.images.builder.frame b.images.formulas.now b.effects.now e b.images.builder.frame.variables

abbrev pub WalkedBy : Build (List Changes) → (b c : ConditionBuilder) → ℕ → (records records' : List ℕ) → Tally → Type 0
WalkedBy m b c from l n r =
    Walked m b.images.builder.frame b.images.formulas.now b.effects.now (size_in b.images.builder) (store_in b.images.builder)
    (store_in c.images.builder) c.images.scratch.now from l n r

abbrev pub OperatorWalkedBy : (b c : ConditionBuilder) → (p e from : ℕ) → (records records' : List ℕ) → Tally → Type 0
OperatorWalkedBy b c p e from l n r =
    OperatorWalked b.images.builder.frame b.images.formulas.now b.effects.now p e (size_in b.images.builder) (store_in b.images.builder)
    (store_in c.images.builder) c.images.scratch.now from l n r

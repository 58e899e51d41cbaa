-- Where building stands between two steps, and what a step with a value of its own answers.
use Rattle.std.specs.Prelude.{ℕ, ◌<◌, ◌≡◌, Bool, true, false, List, Result, Ok, Err}
use Rattle.normal_form.specs.Builder.{St, Build}
use Rattle.normal_form.specs.Operators.{Changes, deletes_of, changes_of}
use Rattle.task.specs.Semantics.{Effect}
use Rattle.formula_builder.specs.declared.Frame.{Frame}
use Rattle.formula_builder.specs.declared.NoRoom.{NoRoom}
use Rattle.formula_builder.specs.Inner.Held.{Size, Store, held, size_in, store_in, Ready, Within}
use Rattle.images.specs.Inner.Images.{Memo, Source}
use Rattle.conditions.specs.Inner.Conditions.{effect_tree, EffectMemo, EffectSource, Noted}
use Rattle.conditions.specs.declared.ConditionBuilder.{ConditionBuilder}
use Rattle.variable_changes.specs.declared.Change.{Change}

-- The source keeps the rules, and the tables and both memos hold what is built.
pub record Stands (frame : Frame) (formulas effects : List ℕ) (at : Size) (s : Store) (scratch : List ℕ) : Type 0 where
  pub source : Source frame formulas scratch
  pub effect_source : EffectSource frame effects scratch
  pub ready : Ready frame at s
  pub memo : Memo frame formulas scratch (held at s)
  pub effect_memo : EffectMemo frame formulas effects scratch (held at s)

-- It stands there with notes, before effect e.
pub record StandsAt (frame : Frame) (formulas effects notes : List ℕ) (at : Size) (s : Store) (scratch : List ℕ) (e : ℕ) : Type 0 where
  pub stands : Stands frame formulas effects at s scratch
  pub noted : Noted frame formulas effects notes (held at s)
  pub effect : e < frame.effects

-- A step leaves notes that are right, unless there was no room.
pub record Leaves (full : Bool) (frame : Frame) (formulas effects notes : List ℕ) (at : Size) (s : Store) : Type 0 where
  pub noted : full ≡ false → Noted frame formulas effects notes (held at s)

-- The state that a definition gives: the tables hold it, with both memos.
pub record Reached (t : St) (frame : Frame) (formulas effects : List ℕ) (at : Size) (after : Store) (scratch : List ℕ) : Type 0 where
  pub state : t ≡ held at after
  pub ready : Ready frame at after
  pub memo : Memo frame formulas scratch (held at after)
  pub effect_memo : EffectMemo frame formulas effects scratch (held at after)

-- A step reaches its state, or there is no room for it. Then tables, memos, notes, sizes and values are left open (`Builds` says why); otherwise only which
-- words index, memos and notes have, if they are right.
pub record Reaches {A : Type 0} (m : Build A) (frame : Frame) (formulas effects : List ℕ) (at : Size) (before after : Store) (scratch : List ℕ) (full : Bool) (next : Size) : Type 0 where
  pub done : full ≡ false → Reached (m (held at before)).st frame formulas effects next after scratch
  pub over : full ≡ true → Within frame (m (held at before)).st → ⊥

-- And it answers its value.
pub record Makes {A : Type 0} (m : Build A) (frame : Frame) (formulas effects : List ℕ) (at : Size) (before after : Store) (scratch : List ℕ) (full : Bool) (next : Size) (x : A) : Type 0 where
  pub reaches : Reaches m frame formulas effects at before after scratch full next
  pub value : full ≡ false → (m (held at before)).value ≡ x

-- a builder of conditions stands there, before effect e: by what one began, where another stands
abbrev pub StandsThere : ConditionBuilder → ConditionBuilder → ℕ → Type 0
StandsThere b c e =
    StandsAt b.images.builder.frame b.images.formulas.now b.effects.now c.notes.now (size_in c.images.builder) (store_in c.images.builder)
    c.images.scratch.now e

abbrev pub StandsBy : ConditionBuilder → ℕ → Type 0
StandsBy b e = StandsThere b b e

-- what freeing d of conflict asks
pub record Deletes (b : ConditionBuilder) (e v d : ℕ) : Type 0 where
  pub stands : StandsBy b e
  pub variable : v < b.images.builder.frame.variables
  pub row : d < b.images.builder.rows

-- what it builds: d freed of conflict, and the changes of variable v
abbrev pub tree_by : ConditionBuilder → ℕ → Effect
tree_by b e = effect_tree b.images.builder.frame b.images.formulas.now b.effects.now e

abbrev pub deletes_by : ConditionBuilder → (e v a d : ℕ) → Build ℕ
deletes_by b e v a d = deletes_of b.images.builder.frame.variables (tree_by b e) v a d

abbrev pub changes_by : ConditionBuilder → (e v : ℕ) → Build Changes
changes_by b e v = changes_of b.images.builder.frame.variables (tree_by b e) v

-- a step of a builder of conditions with a value of its own, and the notes that it leaves
abbrev pub MakesBy : {A : Type 0} → Build A → (b c : ConditionBuilder) → Bool → A → Type 0
MakesBy m b c full x =
    Makes m b.images.builder.frame b.images.formulas.now b.effects.now (size_in b.images.builder) (store_in b.images.builder)
    (store_in c.images.builder) c.images.scratch.now full (size_in c.images.builder) x

abbrev pub LeavesBy : (b c : ConditionBuilder) → Bool → Type 0
LeavesBy b c full =
    Leaves full b.images.builder.frame b.images.formulas.now b.effects.now c.notes.now (size_in c.images.builder) (store_in c.images.builder)

-- the change of variable v; without room, any
abbrev pub made : ℕ → Result Change NoRoom → Changes
made v (Ok c) = record { variable = v; adds = c.adds; deletes = c.deletes }
made v (Err e) = record { variable = v; adds = 0; deletes = 0 }

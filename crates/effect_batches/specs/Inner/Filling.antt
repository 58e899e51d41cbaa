-- Filling the columns of a batch: what it asks and leaves.
use Rattle.std.specs.Prelude.{ℕ, ◌<◌, ◌≡◌, false, List, length, get_or}
use Rattle.task.specs.Table.{operator_at}
use Rattle.normal_form.specs.Builder.{St}
use Rattle.formula_builder.specs.declared.Frame.{Frame}
use Rattle.formula_builder.specs.Inner.Held.{Size, Store, held, Ready, size_in, store_in}
use Rattle.images.specs.Inner.Images.{Memo, Source}
use Rattle.conditions.specs.declared.Target.{Target}
use Rattle.conditions.specs.declared.ConditionBuilder.{ConditionBuilder}
use Rattle.conditions.specs.Inner.Conditions.{condition_at, EffectMemo, EffectSource, Noted, SameConditions}

-- The plain conditions of all atoms at row e were built: building them adds nothing in this state.
pub record Covered (frame : Frame) (formulas effects : List ℕ) (s : St) (e : ℕ) : Type 0 where
  pub effect : e < frame.effects
  pub again :
      (t : Target)
      → t.negated ≡ false
      → t.variable < frame.variables
      → (condition_at frame formulas effects t e s).st ≡ s

-- So it is at the effects of the first n operators.
pub record AllCovered (frame : Frame) (formulas effects operators : List ℕ) (n : ℕ) (s : St) : Type 0 where
  pub covered : (k : ℕ) → k < n → Covered frame formulas effects s (operator_at operators k).effect

-- The source keeps the rules, and the tables, both memos and the notes hold what is built.
pub record Stands (frame : Frame) (formulas effects notes : List ℕ) (at : Size) (s : Store) (scratch : List ℕ) : Type 0 where
  pub source : Source frame formulas scratch
  pub effect_source : EffectSource frame effects scratch
  pub ready : Ready frame at s
  pub noted : Noted frame formulas effects notes (held at s)
  pub memo : Memo frame formulas scratch (held at s)
  pub effect_memo : EffectMemo frame formulas effects scratch (held at s)

-- For one row and one atom.
pub record FillsRow (frame : Frame) (formulas effects notes : List ℕ) (t : Target) (at : Size) (s : Store) (scratch : List ℕ) (e : ℕ) : Type 0 where
  pub stands : Stands frame formulas effects notes at s scratch
  pub plain : t.negated ≡ false
  pub variable : t.variable < frame.variables
  pub covered : Covered frame formulas effects (held at s) e

-- For the rows of a list.
pub record Fills (frame : Frame) (formulas effects notes list : List ℕ) (at : Size) (s : Store) (scratch : List ℕ) : Type 0 where
  pub stands : Stands frame formulas effects notes at s scratch
  pub covered : (j : ℕ) → j < length list → Covered frame formulas effects (held at s) (get_or list j 0)

-- and one atom
pub record FillsAtom (frame : Frame) (formulas effects notes list : List ℕ) (t : Target) (at : Size) (s : Store) (scratch : List ℕ) : Type 0 where
  pub fills : Fills frame formulas effects notes list at s scratch
  pub plain : t.negated ≡ false
  pub variable : t.variable < frame.variables

-- Nothing is added: the tables hold the same state, by the same counts, and memos and notes are right. Which words these have, and the index, is left open.
pub record Filled (frame : Frame) (formulas effects notes' : List ℕ) (at : Size) (before after : Store) (scratch' : List ℕ) : Type 0 where
  pub state : held at after ≡ held at before
  pub stands : Stands frame formulas effects notes' at after scratch'

-- The same of a builder of conditions: for one row and one atom, for the rows of a list and one atom, and for the rows of a list.
abbrev pub FillsRowBy : ConditionBuilder → Target → ℕ → Type 0
FillsRowBy b t e =
    FillsRow b.images.builder.frame b.images.formulas.now b.effects.now b.notes.now t (size_in b.images.builder) (store_in b.images.builder)
    b.images.scratch.now e

abbrev pub FillsAtomBy : ConditionBuilder → List ℕ → Target → Type 0
FillsAtomBy b list t =
    FillsAtom b.images.builder.frame b.images.formulas.now b.effects.now b.notes.now list t (size_in b.images.builder)
    (store_in b.images.builder) b.images.scratch.now

abbrev pub FillsBy : ConditionBuilder → List ℕ → Type 0
FillsBy b list =
    Fills b.images.builder.frame b.images.formulas.now b.effects.now b.notes.now list (size_in b.images.builder) (store_in b.images.builder)
    b.images.scratch.now

-- what is left: by what one began, where another stands
pub record FilledBy (b c : ConditionBuilder) : Type 0 where
  pub filled :
      Filled b.images.builder.frame b.images.formulas.now b.effects.now c.notes.now (size_in b.images.builder) (store_in b.images.builder)
      (store_in c.images.builder) c.images.scratch.now
  pub size : size_in c.images.builder ≡ size_in b.images.builder
  pub same : SameConditions b c

-- The operators, a batch at a time: what one asks and leaves.
use Rattle.std.specs.Prelude.{ℕ, ◌≤◌, ◌<◌, ◌≡◌, List, length, get_or, Result}
use Rattle.task.specs.Table.{operator_at}
use Rattle.formula_builder.specs.declared.Frame.{Frame}
use Rattle.formula_builder.specs.declared.NoRoom.{NoRoom}
use Rattle.formula_builder.specs.Inner.Held.{held, size_in, store_in, full_by}
use Rattle.atom_sets.specs.Inner.Sets.{sets_end}
use Rattle.conditions.specs.declared.ConditionBuilder.{ConditionBuilder}
use Rattle.conditions.specs.Inner.Conditions.{Noted, SameConditions}
use Rattle.variable_changes.specs.Inner.Stands.{LeavesBy}
use Rattle.building.specs.declared.Progress.{Progress as Answer}
use Rattle.building.specs.Inner.Taken.{Progress, progress_at, progress_by, Taken}
use Rattle.effect_batches.specs.Inner.Firsts.{Roots, First}

-- The operators keep the rules, and the words of `first` are right.
pub record Known (frame : Frame) (effects operators : List ℕ) (count : ℕ) (first : List ℕ) : Type 0 where
  pub roots : Roots frame.effects operators count
  pub precondition : (o : ℕ) → o < count → (operator_at operators o).precondition < frame.formulas
  pub words : frame.effects ≤ length first
  pub comes : First effects operators count first

-- So many operators are taken and recorded: what is built stands, in tables that one began, where another stands.
abbrev pub TakenBy : (b c : ConditionBuilder) → (operators records : List ℕ) → Progress → Type 0
TakenBy b c operators records p =
    Taken b.images.builder.frame b.images.formulas.now b.effects.now operators (store_in c.images.builder) c.images.scratch.now records p

-- There is a next operator, each before it is recorded, the notes are right, and before the first one they keep no condition.
pub record TakesBatch (b : ConditionBuilder) (operators : List ℕ) (count : ℕ) (first records : List ℕ) (x : Answer) : Type 0 where
  pub known : Known b.images.builder.frame b.effects.now operators count first
  pub next : x.operators < count
  pub taken : TakenBy b b operators records (progress_at b.images.builder x)
  pub noted :
      Noted b.images.builder.frame b.images.formulas.now b.effects.now b.notes.now
      (held (size_in b.images.builder) (store_in b.images.builder))
  pub notes_space : sets_end b.images.builder.frame ≤ length b.notes.now
  pub blank : x.operators ≡ 0 → (j : ℕ) → sets_end b.images.builder.frame ≤ j → get_or b.notes.now j 0 ≡ 0
  pub space : 6912 ≤ length records

-- It is taken, and maybe some behind it; or there is no room for some of these.
pub record TookBatch (b c : ConditionBuilder) (operators : List ℕ) (count : ℕ) (records : List ℕ) (x : Answer) (r : Result Answer NoRoom) : Type 0 where
  pub stop : ℕ
  pub more : x.operators < (progress_by c.images.builder stop r).operators
  pub most : (progress_by c.images.builder stop r).operators ≤ count
  pub taken : TakenBy b c operators records (progress_by c.images.builder stop r)
  pub leaves : LeavesBy b c (full_by r)
  pub same : SameConditions b c

-- The next batch of operators: what it asks and leaves.
use Rattle.std.specs.Prelude.{ℕ, ◌≤◌, ◌<◌, ◌≡◌, List, get_or}
use Rattle.formula_builder.specs.declared.Frame.{Frame}
use Rattle.formula_builder.specs.Inner.Held.{Size, Store, held, size_in, store_in}
use Rattle.conditions.specs.declared.ConditionBuilder.{ConditionBuilder}
use Rattle.atom_sets.specs.Inner.Sets.{sets_end}
use Rattle.effect_batches.specs.Inner.Firsts.{First}
use Rattle.effect_batches.specs.Inner.Numbers.{Sizes}
use Rattle.effect_batches.specs.Inner.Filling.{AllCovered, Stands, FilledBy}

-- There is a next operator, and those before it are built; the notes are right, and before the first batch keep no condition.
pub record NextBatch (frame : Frame) (formulas effects operators : List ℕ) (from count : ℕ) (first notes : List ℕ) (at : Size) (s : Store) (scratch : List ℕ) : Type 0 where
  pub sizes : Sizes frame effects operators first notes from count
  pub comes : First effects operators count first
  pub covered : AllCovered frame formulas effects operators from (held at s)
  pub stands : Stands frame formulas effects notes at s scratch
  pub blank : from ≡ 0 → (j : ℕ) → sets_end frame ≤ j → get_or notes j 0 ≡ 0

abbrev pub NextBatchBy : ConditionBuilder → (operators : List ℕ) → (from count : ℕ) → (first : List ℕ) → Type 0
NextBatchBy b operators from count first =
    NextBatch b.images.builder.frame b.images.formulas.now b.effects.now operators from count first b.notes.now (size_in b.images.builder)
    (store_in b.images.builder) b.images.scratch.now

-- It has begun: nothing is added. Where it ends is left open but for these bounds, as is what the notes keep, if it is right: it costs time alone.
pub record BegunBatchBy (b c : ConditionBuilder) (from count end : ℕ) : Type 0 where
  pub more : from < end
  pub most : end ≤ count
  pub filled : FilledBy b c

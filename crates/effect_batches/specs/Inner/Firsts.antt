-- For each effect row an operator that comes to it: what finding it asks and leaves.
use Rattle.std.specs.Prelude.{ℕ, ◌+◌, ◌*◌, ◌≤◌, ◌<◌, ◌≡◌, ◌⊎◌, List, length, get_or}
use Rattle.task.specs.Table.{row_at, operator_width, operator_at}
use Rattle.task.specs.Inner.Rows.{EffectsDown}
use Rattle.formula_builder.specs.declared.Frame.{Frame}
use Rattle.conditions.specs.Inner.Conditions.{effect_rows}

-- The effect rows keep the rules.
pub record Rows (frame : Frame) (effects : List ℕ) : Type 0 where
  pub words : 3 * frame.effects ≤ length effects
  pub limit : frame.effects ≤ 4096
  pub variables : frame.variables ≤ 512
  pub down : EffectsDown frame.variables frame.formulas (effect_rows frame effects)

-- Each operator's effect is one of n rows.
pub record Roots (n : ℕ) (operators : List ℕ) (count : ℕ) : Type 0 where
  pub limit : count ≤ 256
  pub words : operator_width * count ≤ length operators
  pub effect : (k : ℕ) → k < count → (operator_at operators k).effect < n

-- Row i names effect row e.
pub data Names (effects : List ℕ) (i e : ℕ) : Type 0 where
  left : (row_at effects i).kind ≡ 3 → (row_at effects i).a ≡ e → Names effects i e
  right : (row_at effects i).kind ≡ 3 → (row_at effects i).b ≡ e → Names effects i e
  inner : (row_at effects i).kind ≡ 4 → (row_at effects i).b ≡ e → Names effects i e

-- Row i is of a known kind, and names lower rows.
pub record RowKept (effects : List ℕ) (i : ℕ) : Type 0 where
  pub words : 3 * i + 3 ≤ length effects
  pub known : (row_at effects i).kind ≤ 4
  pub lower : (e : ℕ) → Names effects i e → e < i

-- Row e is row top, or a row at or below top names it.
pub data Below (effects : List ℕ) (top : ℕ) : ℕ → Type 0 where
  here : (e : ℕ) → e ≡ top → Below effects top e
  named : (i e : ℕ) → Names effects i e → Below effects top i → Below effects top e

-- Word k + 1 of row e says that operator k comes to it; 0 says nothing. That no earlier operator does is left open: it costs time alone.
pub record Comes (effects operators : List ℕ) (count w e : ℕ) : Type 0 where
  pub below : (k : ℕ) → w ≡ k + 1 → (k < count) × Below effects (operator_at operators k).effect e

-- So it is for each row.
pub record First (effects operators : List ℕ) (count : ℕ) (first : List ℕ) : Type 0 where
  pub comes : (e : ℕ) → Comes effects operators count (get_or first e 0) e

-- The word of row e is as it was, or w; all others are as they were.
pub record Meets (first first' : List ℕ) (e w : ℕ) : Type 0 where
  pub word : (j : ℕ) → (get_or first' j 0 ≡ get_or first j 0) ⊎ ((j ≡ e) × (get_or first' j 0 ≡ w))

-- All words are 0, and each operator's effect has one.
pub record MeetsRoots (operators : List ℕ) (count : ℕ) (first : List ℕ) : Type 0 where
  pub roots : Roots (length first) operators count
  pub blank : (e : ℕ) → get_or first e 0 ≡ 0

-- Row i has a word.
pub record HandsOn (effects first : List ℕ) (i : ℕ) : Type 0 where
  pub row : RowKept effects i
  pub effect : i < length first

-- Words that were right are right.
pub record HandedOn (effects first first' : List ℕ) : Type 0 where
  pub stays :
      (operators : List ℕ) (count : ℕ) → First effects operators count first → First effects operators count first'

-- All words are 0, and each row has one.
pub record FindsFirst (frame : Frame) (effects operators : List ℕ) (count : ℕ) (first : List ℕ) : Type 0 where
  pub rows : Rows frame effects
  pub roots : Roots frame.effects operators count
  pub words : frame.effects ≤ length first
  pub blank : (e : ℕ) → get_or first e 0 ≡ 0

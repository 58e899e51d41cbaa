-- Filling the lent tables: what it asks, and what it leaves.
use Rattle.std.specs.Prelude.{ℕ, ◌+◌, ◌*◌, ◌≤◌, ◌≡◌, List, [], ◌++◌, length, take, drop, replicate, Result, Ok, Err}
use Rattle.task.specs.declared.Head.{Head}
use Rattle.task.specs.Table.{Lent, lent, task_of, operator_width}
use Rattle.task.specs.Check.{refusal}
use Rattle.task.specs.Words.{words_of, operator_words, head_of, padded}
use Rattle.normal_form.specs.Finished.{finished}
use Rattle.normal_form.specs.Compiled.{Fits}
use Rattle.normal_form.specs.Inner.Allowed.{Allows}
use Rattle.formula_builder.specs.declared.Frame.{Frame}
use Rattle.atom_sets.specs.Inner.Sets.{sets_end}
use Rattle.compile_parts.specs.declared.Counts.{Counts}
use Rattle.compile_parts.specs.declared.Filled.{Filled}
use Rattle.compiler.specs.Tables.{Tables, room_of}

-- Tables as long as before, all 0.
pub record Blanked (x y : Tables) : Type 0 where
  pub initial : y.initial ≡ replicate (length x.initial) 0
  pub twins : y.twins ≡ replicate (length x.twins) 0
  pub formulas : y.formulas ≡ replicate (length x.formulas) 0
  pub effects : y.effects ≡ replicate (length x.effects) 0
  pub operators : y.operators ≡ replicate (length x.operators) 0
  pub scratch : y.scratch ≡ replicate (length x.scratch) 0

-- A source without twins, its counts, and how much there is room for: rows and twins in the frame, effect rows.
pub record Counted : Type 0 where
  pub frame : Frame
  pub count : ℕ
  pub goal : ℕ
  pub room : ℕ
  pub initial : List ℕ
  pub formulas : List ℕ
  pub effects : List ℕ
  pub operators : List ℕ

abbrev pub counted : Counts → Lent → Counted
counted c l =
    record {
      frame = c.frame;
      count = c.operators;
      goal = c.goal;
      room = c.room;
      initial = l.initial;
      formulas = l.formulas;
      effects = l.effects;
      operators = l.operators;
    }

abbrev pub counts : Counted → Counts
counts g = record { frame = g.frame; operators = g.count; goal = g.goal; room = g.room }

-- what was lent, without its twins: there are none
abbrev pub lent_of : Counted → Lent
lent_of g =
    lent
    (record {
      variables = g.frame.variables;
      twins = 0;
      formulas = g.frame.formulas;
      effects = g.frame.effects;
      operators = g.count;
      goal = g.goal;
    })
    g.initial [] g.formulas g.effects g.operators

-- The source passes; all lent tables are 0, and have the room that is counted.
pub record Begins (g : Counted) (x : Tables) : Type 0 where
  pub passes : refusal (lent_of g) ≡ 0
  pub blank : Blanked x x
  pub memo : 2 * g.frame.formulas + 2 * g.frame.effects ≤ length x.scratch
  pub rows_space : 3 * g.frame.rows ≤ length x.formulas
  pub rows_limit : g.frame.rows ≤ 4096
  pub twins_space : g.frame.twins ≤ length x.twins
  pub variables_limit : g.frame.variables + g.frame.twins ≤ 512
  pub initial_space : g.frame.variables + g.frame.twins ≤ length x.initial
  pub effects_space : 3 * g.room ≤ length x.effects
  pub effects_limit : g.room ≤ 4096
  pub one_effect : 1 ≤ g.room
  pub operators_space : operator_width * g.count ≤ length x.operators

-- Rows, twins and effect rows are as many as the limits and the tables allow.
pub record Roomy (g : Counted) (x : Tables) : Type 0 where
  pub begins : Begins g x
  pub allows : Allows g.frame.variables (room_of x) g.frame.rows g.frame.twins g.room

-- A frame with so many words for rows and for notes is enough, and not larger than the large one.
pub record Enough (built notes : ℕ) (g : Counted) (x : Tables) : Type 0 where
  pub begins : Begins g x
  pub rows_limit : built ≤ 37376
  pub notes_limit : notes ≤ 610304
  pub rows_fit : 9 * g.frame.rows + g.frame.variables ≤ built
  pub notes_fit : sets_end g.frame ≤ notes

-- So many twins are copied to the front of the lent table; with no room it stays.
abbrev pub TwinsCopied : {E : Type 0} → ℕ → (originals before after : List ℕ) → Result Filled E → Type 0
TwinsCopied w originals before after (Ok r) = after ≡ take w originals ++ drop w before
TwinsCopied w originals before after (Err e) = after ≡ before

-- the head of the compiled task: operators keep their number
abbrev pub head_after : Head → Filled → Head
head_after h r =
    record {
      variables = h.variables + r.twins;
      twins = r.twins;
      formulas = r.rows;
      effects = r.effects;
      operators = h.operators;
      goal = r.goal;
    }

-- The tables hold the finished task, which fits. What stands in scratch is left open: `compile` clears it (`compiling`).
pub record Holds (l : Lent) (x y : Tables) (r : Filled) : Type 0 where
  pub fits : Fits (finished (task_of l)) (room_of x)
  pub head : head_of (finished (task_of l)) ≡ head_after l.head r
  pub initial : y.initial ≡ padded (length x.initial) (finished (task_of l)).initial
  pub twins : y.twins ≡ padded (length x.twins) (finished (task_of l)).originals
  pub formulas : y.formulas ≡ padded (length x.formulas) (words_of (finished (task_of l)).formulas)
  pub effects : y.effects ≡ padded (length x.effects) (words_of (finished (task_of l)).effects)
  pub operators : y.operators ≡ padded (length x.operators) (operator_words (finished (task_of l)).operators)

-- The tables are as they came; and the finished task does not fit, if what is counted is all that the limits and the tables allow.
pub record Unfilled (g : Counted) (x y : Tables) : Type 0 where
  pub same : y ≡ x
  pub misfit :
      Allows g.frame.variables (room_of x) g.frame.rows g.frame.twins g.room
      → Fits (finished (task_of (lent_of g))) (room_of x)
      → ⊥

-- They hold it, or are as they came.
abbrev pub Tries : {E : Type 0} → Counted → Tables → Tables → Result Filled E → Type 0
Tries g x y (Ok r) = Holds (lent_of g) x y r
Tries g x y (Err e) = Unfilled g x y

-- The tables are as they came, since the finished task does not fit.
pub record Misfits (g : Counted) (x y : Tables) : Type 0 where
  pub same : y ≡ x
  pub misfit : Fits (finished (task_of (lent_of g))) (room_of x) → ⊥

-- They hold it, or it does not fit.
abbrev pub Fills : {E : Type 0} → Counted → Tables → Tables → Result Filled E → Type 0
Fills g x y (Ok r) = Holds (lent_of g) x y r
Fills g x y (Err e) = Misfits g x y

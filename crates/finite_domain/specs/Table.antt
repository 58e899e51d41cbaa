-- The tables of a finite-domain task (02, K3): 01's, without twins, with a value count and an initial value for each variable.
use Rattle.std.specs.Prelude.{ℕ, List, [], ◌∷◌, get_or, take}
use Rattle.task.specs.declared.Head.{Head}
use Rattle.task.specs.Bounded.{upto}
use Rattle.task.specs.Table.{Row, Operator, row_at, operator_at, FormulaKind, false_kind, true_kind, variable_kind, not_kind, and_kind, or_kind, implies_kind, equivalent_kind, unknown_formula, EffectKind, empty_kind, set_kind, both_kind, under_kind, unknown_effect}

-- 02, "formula kind 8, variable a has value b, replaces 2": 01's kinds, where the leaf, 01's variable, is kind 8 and has both words. Kind 2 is unknown here.
unfoldable pub finite_formula_kind : ℕ → FormulaKind
finite_formula_kind n =
    get_or
    (false_kind
    ∷ true_kind
    ∷ unknown_formula
    ∷ not_kind
    ∷ and_kind
    ∷ or_kind
    ∷ implies_kind
    ∷ equivalent_kind
    ∷ variable_kind
    ∷ [])
    n
    unknown_formula

-- 02, "effect kind 5, variable a becomes value b, replaces 1 and 2": 01's kinds, where the only atom, 01's set, is kind 5 and has both words.
unfoldable pub finite_effect_kind : ℕ → EffectKind
finite_effect_kind n =
    get_or (empty_kind ∷ unknown_effect ∷ unknown_effect ∷ both_kind ∷ under_kind ∷ set_kind ∷ []) n unknown_effect

-- What a caller lends: the head, a value count and an initial value for each variable, and 01's three tables of rows.
pub record FiniteLent : Type 0 where
  pub head : Head
  pub counts : List ℕ
  pub initial : List ℕ
  pub formulas : List ℕ
  pub effects : List ℕ
  pub operators : List ℕ

-- A finite-domain task: variable a has the values 0 .. get_or counts a 0 - 1. V is the length of the counts.
pub record FiniteTask : Type 0 where
  pub counts : List ℕ
  pub initial : List ℕ
  pub formulas : List Row
  pub effects : List Row
  pub operators : List Operator
  pub goal : ℕ

-- what a call on such tables is lent, from its arguments
abbrev pub finite_lent : Head → (counts initial formulas effects operators : List ℕ) → FiniteLent
finite_lent h c i f e o = record { head = h; counts = c; initial = i; formulas = f; effects = e; operators = o }

-- The task that lent tables hold. What is lent beyond the counts does not belong to it.
unfoldable pub finite_task_of : FiniteLent → FiniteTask
finite_task_of l =
    record {
      counts = take l.head.variables l.counts;
      initial = take l.head.variables l.initial;
      formulas = upto l.head.formulas (row_at l.formulas);
      effects = upto l.head.effects (row_at l.effects);
      operators = upto l.head.operators (operator_at l.operators);
      goal = l.head.goal;
    }

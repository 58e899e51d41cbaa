-- Positive formulas and tasks (002, "Positive Formula"): no negation symbol appears, those that → and ↔ imply included.
use Rattle.std.specs.Prelude.{ℕ, ◌<◌, length, get_or}
use Rattle.task.specs.Table.{Task, FormulaKind, false_kind, true_kind, variable_kind, not_kind, and_kind, or_kind, implies_kind, equivalent_kind, unknown_formula, formula_kind}
use Rattle.task.specs.Rules.{no_row}
use Rattle.task.specs.Semantics.{Formula, falsum, verum, variable, negation, conjunction, disjunction, implication, equivalence, Effect, empty, atomic, both, under}
use Rattle.task.specs.Tree.{formula_of}
use Rattle.task.specs.Run.{operator_of, effect_of_operator}

-- the kinds of a row without a negation symbol: not 3, 6, 7
abbrev pub PositiveKind : FormulaKind → Type 0
PositiveKind false_kind = Unit
PositiveKind true_kind = Unit
PositiveKind variable_kind = Unit
PositiveKind not_kind = ⊥
PositiveKind and_kind = Unit
PositiveKind or_kind = Unit
PositiveKind implies_kind = ⊥
PositiveKind equivalent_kind = ⊥
PositiveKind unknown_formula = ⊥

-- Every row of the formula table, and not only those that the goal, a precondition or a condition reaches.
pub record Positive (t : Task) : Type 0 where
  pub row : (i : ℕ) → i < length t.formulas → PositiveKind (formula_kind (get_or t.formulas i no_row).kind)

-- a formula, as a tree
abbrev pub PositiveFormula : Formula → Type 0
PositiveFormula falsum = Unit
PositiveFormula verum = Unit
PositiveFormula (variable v) = Unit
PositiveFormula (negation p) = ⊥
PositiveFormula (conjunction p q) = PositiveFormula p × PositiveFormula q
PositiveFormula (disjunction p q) = PositiveFormula p × PositiveFormula q
PositiveFormula (implication p q) = ⊥
PositiveFormula (equivalence p q) = ⊥

-- all effect conditions in an effect are positive (002, "Positive Operator")
abbrev pub PositiveEffect : Effect → Type 0
PositiveEffect empty = Unit
PositiveEffect (atomic l) = Unit
PositiveEffect (both e f) = PositiveEffect e × PositiveEffect f
PositiveEffect (under p e) = PositiveFormula p × PositiveEffect e

-- 002, "Positive Propositional Planning Task"
pub record PositiveTask (t : Task) : Type 0 where
  pub goal : PositiveFormula (formula_of t.formulas t.goal)
  pub precondition : (o : ℕ) → PositiveFormula (formula_of t.formulas (operator_of t o).precondition)
  pub conditions : (o : ℕ) → PositiveEffect (effect_of_operator t o)

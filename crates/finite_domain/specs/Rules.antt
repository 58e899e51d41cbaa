-- The rules that the tables of a finite-domain task keep, a field or a constructor for each sentence of 02, K3.
use Rattle.std.specs.Prelude.{ℕ, ◌*◌, ◌≤◌, ◌<◌, ◌≡◌, List, length, get_or}
use Rattle.task.specs.Table.{operator_width, FormulaKind, false_kind, true_kind, variable_kind, not_kind, and_kind, or_kind, implies_kind, equivalent_kind, unknown_formula, EffectKind, empty_kind, set_kind, clear_kind, both_kind, under_kind, unknown_effect}
use Rattle.task.specs.Rules.{no_row, no_operator, FormulaRule, EffectRule, OperatorRule, word_limit}
use Rattle.finite_domain.specs.Table.{FiniteLent, FiniteTask, finite_formula_kind, finite_effect_kind}

-- Up to 64 variables; F 1 to 4,096, E 4,096, O 256 as in 01.
pub record FiniteLimits (t : FiniteTask) : Type 0 where
  pub variables : length t.counts ≤ 64
  pub one_formula : 1 ≤ length t.formulas
  pub formulas : length t.formulas ≤ 4096
  pub effects : length t.effects ≤ 4096
  pub operators : length t.operators ≤ 256

-- a value of a variable
pub record ValueRule (counts : List ℕ) (a b : ℕ) : Type 0 where
  pub variable : a < length counts
  pub value : b < get_or counts a 0

-- Row i of the formulas: 01's rule, but for the leaf "variable a has value b".
abbrev pub FiniteFormulaRule : List ℕ → (i : ℕ) → FormulaKind → (a b : ℕ) → Type 0
FiniteFormulaRule counts i false_kind a b = FormulaRule 0 i false_kind a b
FiniteFormulaRule counts i true_kind a b = FormulaRule 0 i true_kind a b
FiniteFormulaRule counts i variable_kind a b = ValueRule counts a b
FiniteFormulaRule counts i not_kind a b = FormulaRule 0 i not_kind a b
FiniteFormulaRule counts i and_kind a b = FormulaRule 0 i and_kind a b
FiniteFormulaRule counts i or_kind a b = FormulaRule 0 i or_kind a b
FiniteFormulaRule counts i implies_kind a b = FormulaRule 0 i implies_kind a b
FiniteFormulaRule counts i equivalent_kind a b = FormulaRule 0 i equivalent_kind a b
FiniteFormulaRule counts i unknown_formula a b = ⊥

-- Row i of the effects over f formulas: 01's rule, but for the atom "variable a becomes value b".
abbrev pub FiniteEffectRule : List ℕ → (f i : ℕ) → EffectKind → (a b : ℕ) → Type 0
FiniteEffectRule counts f i empty_kind a b = EffectRule 0 f i empty_kind a b
FiniteEffectRule counts f i set_kind a b = ValueRule counts a b
FiniteEffectRule counts f i clear_kind a b = ⊥
FiniteEffectRule counts f i both_kind a b = EffectRule 0 f i both_kind a b
FiniteEffectRule counts f i under_kind a b = EffectRule 0 f i under_kind a b
FiniteEffectRule counts f i unknown_effect a b = ⊥

-- THE rules of a finite-domain task that a number tells
pub record FiniteRules (t : FiniteTask) : Type 0 where
  pub limits : FiniteLimits t
  pub width : length t.initial ≡ length t.counts
  pub goal_is_formula : t.goal < length t.formulas
  pub count_low : (a : ℕ) → a < length t.counts → 1 ≤ get_or t.counts a 0
  pub count_high : (a : ℕ) → a < length t.counts → get_or t.counts a 0 ≤ 16
  pub initial_value : (a : ℕ) → a < length t.counts → get_or t.initial a 0 < get_or t.counts a 0
  pub formula :
      (i : ℕ)
      → i < length t.formulas
      → let r = get_or t.formulas i no_row in
      FiniteFormulaRule t.counts i (finite_formula_kind r.kind) r.a r.b
  pub effect :
      (i : ℕ)
      → i < length t.effects
      → let r = get_or t.effects i no_row in
      FiniteEffectRule t.counts (length t.formulas) i (finite_effect_kind r.kind) r.a r.b
  pub operator :
      (i : ℕ)
      → i < length t.operators
      → OperatorRule (length t.formulas) (length t.effects) (get_or t.operators i no_operator)

-- Costs are words of 16 bits; no number tells this, since a lent table cannot hold another word.
pub record FiniteCosts (t : FiniteTask) : Type 0 where
  pub cost : (i : ℕ) → i < length t.operators → (get_or t.operators i no_operator).cost < word_limit

-- Each lent table is as long as its count asks, and W is 0.
pub record FiniteLongEnough (l : FiniteLent) : Type 0 where
  pub no_twins : l.head.twins ≡ 0
  pub counts : l.head.variables ≤ length l.counts
  pub initial : l.head.variables ≤ length l.initial
  pub formulas : 3 * l.head.formulas ≤ length l.formulas
  pub effects : 3 * l.head.effects ≤ length l.effects
  pub operators : operator_width * l.head.operators ≤ length l.operators

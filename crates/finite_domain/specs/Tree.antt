-- The formula and the effect that a row of a finite-domain task stands for.
use Rattle.std.specs.Prelude.{ℕ, zero, suc, List, get_or}
use Rattle.task.specs.Table.{Row, FormulaKind, false_kind, true_kind, variable_kind, not_kind, and_kind, or_kind, implies_kind, equivalent_kind, unknown_formula, EffectKind, empty_kind, set_kind, clear_kind, both_kind, under_kind, unknown_effect}
use Rattle.task.specs.Rules.{no_row}
use Rattle.finite_domain.specs.Table.{finite_formula_kind, finite_effect_kind}
use Rattle.finite_domain.specs.Meaning.{FiniteFormula, finite_false, finite_true, has, finite_not, finite_and, finite_or, finite_implies, finite_equivalent, FiniteEffect, finite_empty, becomes, finite_both, finite_under}

-- a row's kind, its words, and the formulas that they name
unfoldable pub finite_formula_node : FormulaKind → (a b : ℕ) → FiniteFormula → FiniteFormula → FiniteFormula
finite_formula_node false_kind a b p q = finite_false
finite_formula_node true_kind a b p q = finite_true
finite_formula_node variable_kind a b p q = has a b
finite_formula_node not_kind a b p q = finite_not p
finite_formula_node and_kind a b p q = finite_and p q
finite_formula_node or_kind a b p q = finite_or p q
finite_formula_node implies_kind a b p q = finite_implies p q
finite_formula_node equivalent_kind a b p q = finite_equivalent p q
finite_formula_node unknown_formula a b p q = finite_false

-- the formula of row i, looked up at most d rows deep
unfoldable pub finite_formula_within : ℕ → List Row → ℕ → FiniteFormula
finite_formula_within zero rows i = finite_false
finite_formula_within (suc d) rows i =
    let r = get_or rows i no_row in
    finite_formula_node (finite_formula_kind r.kind) r.a r.b (finite_formula_within d rows r.a)
    (finite_formula_within d rows r.b)

-- the formula of row i: references go down, so i + 1 rows deep is deep enough
unfoldable pub finite_formula_of : List Row → ℕ → FiniteFormula
finite_formula_of rows i = finite_formula_within (suc i) rows i

-- a row's kind, its words, the formula that a names, and the effects that a and b name
unfoldable pub finite_effect_node : EffectKind → (a b : ℕ) → FiniteFormula → FiniteEffect → FiniteEffect → FiniteEffect
finite_effect_node empty_kind a b p e f = finite_empty
finite_effect_node set_kind a b p e f = becomes a b
finite_effect_node clear_kind a b p e f = finite_empty
finite_effect_node both_kind a b p e f = finite_both e f
finite_effect_node under_kind a b p e f = finite_under p f
finite_effect_node unknown_effect a b p e f = finite_empty

unfoldable pub finite_effect_within : ℕ → List Row → List Row → ℕ → FiniteEffect
finite_effect_within zero formulas effects i = finite_empty
finite_effect_within (suc d) formulas effects i =
    let r = get_or effects i no_row in
    finite_effect_node (finite_effect_kind r.kind) r.a r.b (finite_formula_of formulas r.a)
    (finite_effect_within d formulas effects r.a) (finite_effect_within d formulas effects r.b)

unfoldable pub finite_effect_of : List Row → List Row → ℕ → FiniteEffect
finite_effect_of formulas effects i = finite_effect_within (suc i) formulas effects i

-- The formula and the effect that a row stands for. Rows may be shared, so a tree can be exponentially larger than its table.
use Rattle.std.specs.Prelude.{ℕ, zero, suc, List, get_or}
use Rattle.task.specs.Table.{Row, FormulaKind, false_kind, true_kind, variable_kind, not_kind, and_kind, or_kind, implies_kind, equivalent_kind, unknown_formula, formula_kind, EffectKind, empty_kind, set_kind, clear_kind, both_kind, under_kind, unknown_effect, effect_kind}
use Rattle.task.specs.Rules.{no_row}
use Rattle.task.specs.Semantics.{Formula, falsum, verum, variable, negation, conjunction, disjunction, implication, equivalence, Effect, empty, atomic, both, under, sets, clears}

-- a row's kind, its word a, and the formulas that a and b name
unfoldable pub formula_node : FormulaKind → ℕ → Formula → Formula → Formula
formula_node false_kind a p q = falsum
formula_node true_kind a p q = verum
formula_node variable_kind a p q = variable a
formula_node not_kind a p q = negation p
formula_node and_kind a p q = conjunction p q
formula_node or_kind a p q = disjunction p q
formula_node implies_kind a p q = implication p q
formula_node equivalent_kind a p q = equivalence p q
formula_node unknown_formula a p q = falsum

-- the formula of row i, looked up at most d rows deep
unfoldable pub formula_within : ℕ → List Row → ℕ → Formula
formula_within zero rows i = falsum
formula_within (suc d) rows i =
    let r = get_or rows i no_row in
    formula_node (formula_kind r.kind) r.a (formula_within d rows r.a) (formula_within d rows r.b)

-- the formula of row i: references go down, so i + 1 rows deep is deep enough
unfoldable pub formula_of : List Row → ℕ → Formula
formula_of rows i = formula_within (suc i) rows i

-- a row's kind, its word a, the formula that a names, and the effects that a and b name
unfoldable pub effect_node : EffectKind → ℕ → Formula → Effect → Effect → Effect
effect_node empty_kind a p e f = empty
effect_node set_kind a p e f = atomic (sets a)
effect_node clear_kind a p e f = atomic (clears a)
effect_node both_kind a p e f = both e f
effect_node under_kind a p e f = under p f
effect_node unknown_effect a p e f = empty

unfoldable pub effect_within : ℕ → List Row → List Row → ℕ → Effect
effect_within zero formulas effects i = empty
effect_within (suc d) formulas effects i =
    let r = get_or effects i no_row in
    effect_node (effect_kind r.kind) r.a (formula_of formulas r.a) (effect_within d formulas effects r.a)
    (effect_within d formulas effects r.b)

unfoldable pub effect_of : List Row → List Row → ℕ → Effect
effect_of formulas effects i = effect_within (suc i) formulas effects i

-- The number that finite-domain tables get (02, K3, "Checks"): 0, or the first in order that applies.
use Rattle.std.specs.Prelude.{ℕ, ◌*◌, Bool, true, false, ◌&&◌, List, length, get_or, leb, ltb, eqb}
use Rattle.task.specs.declared.Head.{Head}
use Rattle.task.specs.Bounded.{every, or_else, first_number}
use Rattle.task.specs.Table.{Row, operator_width, row_at, operator_at, FormulaKind, false_kind, true_kind, variable_kind, not_kind, and_kind, or_kind, implies_kind, equivalent_kind, unknown_formula, EffectKind, empty_kind, set_kind, clear_kind, both_kind, under_kind, unknown_effect}
use Rattle.task.specs.Check.{unless, counts_kept, goal_kept, formula_words_kept, effect_words_kept, operator_number}
use Rattle.finite_domain.specs.Table.{FiniteLent, finite_formula_kind, finite_effect_kind}

-- 6: more than 64 variables, or W above 0; 01's other limits as they are. V 65 is refused though 01 takes 512.
unfoldable pub finite_counts_kept : Head → Bool
finite_counts_kept h = leb h.variables 64 && (eqb h.twins 0 && counts_kept h)

-- 5: a value count and an initial value for each variable, and 01's tables
unfoldable pub finite_long_enough : FiniteLent → Bool
finite_long_enough l =
    leb l.head.variables (length l.counts)
    && (leb l.head.variables (length l.initial)
    && (leb (3 * l.head.formulas) (length l.formulas)
    && (leb (3 * l.head.effects) (length l.effects) && leb (operator_width * l.head.operators) (length l.operators))))

-- 25: a value count outside 1 to 16. A variable of no value could have none.
unfoldable pub count_kept : ℕ → Bool
count_kept n = leb 1 n && leb n 16

unfoldable pub value_counts_kept : FiniteLent → Bool
value_counts_kept l = every l.head.variables (λ a. count_kept (get_or l.counts a 0))

-- 26: a value not below its variable's count; in place of 01's 8 at an initial value. All counts come first: 25 at variable 1 comes before 26 at variable 0.
unfoldable pub value_kept : List ℕ → (a b : ℕ) → Bool
value_kept counts a b = ltb b (get_or counts a 0)

unfoldable pub initial_values_kept : FiniteLent → Bool
initial_values_kept l = every l.head.variables (λ a. value_kept l.counts a (get_or l.initial a 0))

-- 10: as in 01, but for the leaf, whose second word is a value and no unused word
unfoldable pub finite_formula_kept : (v i : ℕ) → FormulaKind → (a b : ℕ) → Bool
finite_formula_kept v i false_kind a b = formula_words_kept v i false_kind a b
finite_formula_kept v i true_kind a b = formula_words_kept v i true_kind a b
finite_formula_kept v i variable_kind a b = ltb a v
finite_formula_kept v i not_kind a b = formula_words_kept v i not_kind a b
finite_formula_kept v i and_kind a b = formula_words_kept v i and_kind a b
finite_formula_kept v i or_kind a b = formula_words_kept v i or_kind a b
finite_formula_kept v i implies_kind a b = formula_words_kept v i implies_kind a b
finite_formula_kept v i equivalent_kind a b = formula_words_kept v i equivalent_kind a b
finite_formula_kept v i unknown_formula a b = false

-- 26 at a formula row: the leaf's value
unfoldable pub formula_value_kept : List ℕ → FormulaKind → (a b : ℕ) → Bool
formula_value_kept counts false_kind a b = true
formula_value_kept counts true_kind a b = true
formula_value_kept counts variable_kind a b = value_kept counts a b
formula_value_kept counts not_kind a b = true
formula_value_kept counts and_kind a b = true
formula_value_kept counts or_kind a b = true
formula_value_kept counts implies_kind a b = true
formula_value_kept counts equivalent_kind a b = true
formula_value_kept counts unknown_formula a b = true

-- 10, then 26: row by row, so 26 in row 0 comes before 10 in row 1, and a leaf of an unknown variable gives 10
unfoldable pub finite_formula_number : List ℕ → (v i : ℕ) → Row → ℕ
finite_formula_number counts v i r =
    let k = finite_formula_kind r.kind in
    unless (finite_formula_kept v i k r.a r.b) 10 (unless (formula_value_kept counts k r.a r.b) 26 0)

-- 11: as in 01, but for the atom, whose second word is a value
unfoldable pub finite_effect_kept : (v f i : ℕ) → EffectKind → (a b : ℕ) → Bool
finite_effect_kept v f i empty_kind a b = effect_words_kept v f i empty_kind a b
finite_effect_kept v f i set_kind a b = ltb a v
finite_effect_kept v f i clear_kind a b = false
finite_effect_kept v f i both_kind a b = effect_words_kept v f i both_kind a b
finite_effect_kept v f i under_kind a b = effect_words_kept v f i under_kind a b
finite_effect_kept v f i unknown_effect a b = false

-- 26 at an effect row: the atom's value
unfoldable pub effect_value_kept : List ℕ → EffectKind → (a b : ℕ) → Bool
effect_value_kept counts empty_kind a b = true
effect_value_kept counts set_kind a b = value_kept counts a b
effect_value_kept counts clear_kind a b = true
effect_value_kept counts both_kind a b = true
effect_value_kept counts under_kind a b = true
effect_value_kept counts unknown_effect a b = true

-- 11, then 26
unfoldable pub finite_effect_number : List ℕ → (v f i : ℕ) → Row → ℕ
finite_effect_number counts v f i r =
    let k = finite_effect_kind r.kind in
    unless (finite_effect_kept v f i k r.a r.b) 11 (unless (effect_value_kept counts k r.a r.b) 26 0)

-- the rows of the three tables, each table row by row; operators as in 01: 12, then 24
unfoldable pub finite_formulas_number : FiniteLent → ℕ
finite_formulas_number l =
    first_number l.head.formulas (λ i. finite_formula_number l.counts l.head.variables i (row_at l.formulas i))

unfoldable pub finite_effects_number : FiniteLent → ℕ
finite_effects_number l =
    first_number l.head.effects
    (λ i. finite_effect_number l.counts l.head.variables l.head.formulas i (row_at l.effects i))

unfoldable pub finite_operators_number : FiniteLent → ℕ
finite_operators_number l =
    first_number l.head.operators
    (λ i. operator_number l.head.formulas l.head.effects (operator_at l.operators i))

-- the first in order: 6, 7, 5, 25, 26, then the rows
unfoldable pub finite_refusal : FiniteLent → ℕ
finite_refusal l =
    unless (finite_counts_kept l.head) 6
    (unless (goal_kept l.head) 7
    (unless (finite_long_enough l) 5
    (unless (value_counts_kept l) 25
    (unless (initial_values_kept l) 26
    (or_else (finite_formulas_number l) (or_else (finite_effects_number l) (finite_operators_number l)))))))

-- A task whose formula table is positive is a positive task, as 002 has it. Assumes nothing.
use Prim.Native.Nat.{ℕ, zero, suc, ◌<◌}
use native.Mathlib.Omega.{arith}
use native.Mathlib.Decide.{dec_lt}
use lib.ListN.{length, get_or, get_or-eq_default}
use Rattle.task.specs.Table.{Task, FormulaKind, false_kind, true_kind, variable_kind, not_kind, and_kind, or_kind, implies_kind, equivalent_kind, unknown_formula, formula_kind, EffectKind, empty_kind, set_kind, clear_kind, both_kind, under_kind, unknown_effect, effect_kind}
use Rattle.task.specs.Rules.{no_row}
use Rattle.task.specs.Semantics.{Formula, Effect}
use Rattle.task.specs.Tree.{formula_node, formula_within, formula_of, effect_node, effect_within, effect_of}
use Rattle.task.specs.Run.{operator_of, effect_of_operator}
use Rattle.normal_form.specs.Positive.{PositiveKind, Positive, PositiveFormula, PositiveEffect, PositiveTask}

formula_node_positive :
    (k : FormulaKind) (a : ℕ) (p q : Formula)
    → PositiveKind k
    → PositiveFormula p
    → PositiveFormula q
    → PositiveFormula (formula_node k a p q)
unfolding formula_node
formula_node_positive false_kind a p q h f g = tt
formula_node_positive true_kind a p q h f g = tt
formula_node_positive variable_kind a p q h f g = tt
formula_node_positive not_kind a p q h f g = absurd h
formula_node_positive and_kind a p q h f g = (f, g)
formula_node_positive or_kind a p q h f g = (f, g)
formula_node_positive implies_kind a p q h f g = absurd h
formula_node_positive equivalent_kind a p q h f g = absurd h
formula_node_positive unknown_formula a p q h f g = tt

effect_node_positive :
    (k : EffectKind) (a : ℕ) (p : Formula) (e f : Effect)
    → PositiveFormula p
    → PositiveEffect e
    → PositiveEffect f
    → PositiveEffect (effect_node k a p e f)
unfolding effect_node
effect_node_positive empty_kind a p e f h g i = tt
effect_node_positive set_kind a p e f h g i = tt
effect_node_positive clear_kind a p e f h g i = tt
effect_node_positive both_kind a p e f h g i = (g, i)
effect_node_positive under_kind a p e f h g i = (h, i)
effect_node_positive unknown_effect a p e f h g i = tt

module _ (t : Task) (table : Positive t) where
  -- past the table's end stands "false"
  row_positive : (i : ℕ) → PositiveKind (formula_kind (get_or t.formulas i no_row).kind)
  unfolding formula_kind
  row_positive i = go (dec_lt i (length t.formulas))
    where
      go : Dec (i < length t.formulas) → PositiveKind (formula_kind (get_or t.formulas i no_row).kind)
      go (yes h) = table.row i h
      go (no h) = rw (get_or-eq_default t.formulas no_row {n = i} (omega arith)) tt

  within_positive : (d i : ℕ) → PositiveFormula (formula_within d t.formulas i)
  unfolding formula_within
  within_positive zero i = tt
  within_positive (suc d) i =
      let r = get_or t.formulas i no_row in
      formula_node_positive (formula_kind r.kind) r.a (formula_within d t.formulas r.a)
      (formula_within d t.formulas r.b) (row_positive i) (within_positive d r.a) (within_positive d r.b)

  pub formula_positive : (i : ℕ) → PositiveFormula (formula_of t.formulas i)
  unfolding formula_of
  formula_positive i = within_positive (suc i) i

  effect_within_positive : (d i : ℕ) → PositiveEffect (effect_within d t.formulas t.effects i)
  unfolding effect_within
  effect_within_positive zero i = tt
  effect_within_positive (suc d) i =
      let r = get_or t.effects i no_row in
      effect_node_positive (effect_kind r.kind) r.a (formula_of t.formulas r.a)
      (effect_within d t.formulas t.effects r.a) (effect_within d t.formulas t.effects r.b)
      (formula_positive r.a) (effect_within_positive d r.a) (effect_within_positive d r.b)

  pub positive_task : PositiveTask t
  unfolding effect_of_operator effect_of
  positive_task =
      record {
        goal = formula_positive t.goal;
        precondition = λ o. formula_positive (operator_of t o).precondition;
        conditions =
            λ o.
            let i = (operator_of t o).effect in
            effect_within_positive (suc i) i;
      }

-- The finite-domain task that lent tables hold: its counts are the head's, and its rows stand in the lent words. Assumes nothing.
use Prim.Native.Nat.{ℕ, ◌<◌}
use mathlib.Core.Path.{◌≡◌, refl}
use lib.ListN.{length, get_or}
use lib.Seq.{length-take-le, get_or-take}
use Rattle.task.specs.Table.{row_at, operator_at}
use Rattle.task.specs.Rules.{no_row, no_operator}
use Rattle.task.proofs.Bounded.{length_upto, getD_upto}
use Rattle.finite_domain.specs.Table.{FiniteLent, finite_task_of}
use Rattle.finite_domain.specs.Rules.{FiniteLongEnough}

module _ (l : FiniteLent) where
  pub finite_length_counts : FiniteLongEnough l → length (finite_task_of l).counts ≡ l.head.variables
  unfolding finite_task_of
  finite_length_counts long = length-take-le l.head.variables l.counts long.counts

  pub finite_length_initial : FiniteLongEnough l → length (finite_task_of l).initial ≡ l.head.variables
  unfolding finite_task_of
  finite_length_initial long = length-take-le l.head.variables l.initial long.initial

  pub finite_length_formulas : length (finite_task_of l).formulas ≡ l.head.formulas
  unfolding finite_task_of
  finite_length_formulas = length_upto l.head.formulas (row_at l.formulas)

  pub finite_length_effects : length (finite_task_of l).effects ≡ l.head.effects
  unfolding finite_task_of
  finite_length_effects = length_upto l.head.effects (row_at l.effects)

  pub finite_length_operators : length (finite_task_of l).operators ≡ l.head.operators
  unfolding finite_task_of
  finite_length_operators = length_upto l.head.operators (operator_at l.operators)

  pub count_held : (a : ℕ) → a < l.head.variables → get_or (finite_task_of l).counts a 0 ≡ get_or l.counts a 0
  unfolding finite_task_of
  count_held a h = get_or-take l.head.variables l.counts a 0 h

  pub initial_value_held : (a : ℕ) → a < l.head.variables → get_or (finite_task_of l).initial a 0 ≡ get_or l.initial a 0
  unfolding finite_task_of
  initial_value_held a h = get_or-take l.head.variables l.initial a 0 h

  pub finite_formula_held :
      (i : ℕ) → i < l.head.formulas → get_or (finite_task_of l).formulas i no_row ≡ row_at l.formulas i
  unfolding finite_task_of
  finite_formula_held i h = getD_upto l.head.formulas (row_at l.formulas) i no_row h

  pub finite_effect_held :
      (i : ℕ) → i < l.head.effects → get_or (finite_task_of l).effects i no_row ≡ row_at l.effects i
  unfolding finite_task_of
  finite_effect_held i h = getD_upto l.head.effects (row_at l.effects) i no_row h

  pub finite_operator_held :
      (i : ℕ) → i < l.head.operators → get_or (finite_task_of l).operators i no_operator ≡ operator_at l.operators i
  unfolding finite_task_of
  finite_operator_held i h = getD_upto l.head.operators (operator_at l.operators) i no_operator h

  pub finite_goal_held : (finite_task_of l).goal ≡ l.head.goal
  unfolding finite_task_of
  finite_goal_held = refl

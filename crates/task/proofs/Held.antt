-- The task that lent tables hold: its counts are the head's, and its rows stand in the lent words.
use Prim.Native.Nat.{ℕ, ◌<◌}
use mathlib.Core.Path.{◌≡◌, refl}
use lib.ListN.{length, get_or}
use lib.Seq.{length-take-le, get_or-take}
use Rattle.task.specs.Table.{Lent, task_of, row_at, operator_at}
use Rattle.task.specs.Rules.{LongEnough, no_row, no_operator}
use Rattle.task.proofs.Bounded.{length_upto, getD_upto}

module _ (l : Lent) where
  pub length_initial : LongEnough l → length (task_of l).initial ≡ l.head.variables
  unfolding task_of
  length_initial long = length-take-le l.head.variables l.initial long.initial

  pub length_originals : LongEnough l → length (task_of l).originals ≡ l.head.twins
  unfolding task_of
  length_originals long = length-take-le l.head.twins l.twins long.twins

  pub length_formulas : length (task_of l).formulas ≡ l.head.formulas
  unfolding task_of
  length_formulas = length_upto l.head.formulas (row_at l.formulas)

  pub length_effects : length (task_of l).effects ≡ l.head.effects
  unfolding task_of
  length_effects = length_upto l.head.effects (row_at l.effects)

  pub length_operators : length (task_of l).operators ≡ l.head.operators
  unfolding task_of
  length_operators = length_upto l.head.operators (operator_at l.operators)

  pub initial_held : (v : ℕ) → v < l.head.variables → get_or (task_of l).initial v 0 ≡ get_or l.initial v 0
  unfolding task_of
  initial_held v h = get_or-take l.head.variables l.initial v 0 h

  pub original_held : (k : ℕ) → k < l.head.twins → get_or (task_of l).originals k 0 ≡ get_or l.twins k 0
  unfolding task_of
  original_held k h = get_or-take l.head.twins l.twins k 0 h

  pub formula_held : (i : ℕ) → i < l.head.formulas → get_or (task_of l).formulas i no_row ≡ row_at l.formulas i
  unfolding task_of
  formula_held i h = getD_upto l.head.formulas (row_at l.formulas) i no_row h

  pub effect_held : (i : ℕ) → i < l.head.effects → get_or (task_of l).effects i no_row ≡ row_at l.effects i
  unfolding task_of
  effect_held i h = getD_upto l.head.effects (row_at l.effects) i no_row h

  pub operator_held :
      (i : ℕ) → i < l.head.operators → get_or (task_of l).operators i no_operator ≡ operator_at l.operators i
  unfolding task_of
  operator_held i h = getD_upto l.head.operators (operator_at l.operators) i no_operator h

  pub goal_held : (task_of l).goal ≡ l.head.goal
  unfolding task_of
  goal_held = refl

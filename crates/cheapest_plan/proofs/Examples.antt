-- Traps of the cheapest plan, by computing the definition.
use Prim.Native.Nat.{ℕ}
use mathlib.Core.Path.{◌≡◌, refl}
use mathlib.Core.List.{[], ◌∷◌}
use Rattle.task.specs.Bounded.{upto}
use Rattle.task.specs.Table.{Row, Task, formula_kind, effect_kind, operator}
use Rattle.task.specs.Semantics.{holds, effcond, value_after, apply}
use Rattle.task.specs.Tree.{formula_node, formula_within, formula_of, effect_node, effect_within, effect_of}
use Rattle.task.specs.Run.{operator_of, effect_of_operator, goal_holds, applicable, charge_of, charge, after_step, answer, run_on, plain_run, unstopped, is_plan}
use Rattle.cheapest_plan.specs.Cheapest.{behind, lists_of, lists_upto, Pick, no_plan, plan_of, no_dearer, unless_later, first_cheapest, cheapest}

abbrev pub words : ℕ → ℕ → ℕ → Row
words k a b = record { kind = k; a = a; b = b }

-- Two variables, both 0. Operator 0 sets v0, and v1 if v0 is 1; operator 1 sets v1. Their costs and the goal are open. Formulas: v0; v1; true; false; 0 or 1.
abbrev pub task : (first second goal : ℕ) → Task
task first second goal =
    record {
      initial = 0 ∷ 0 ∷ [];
      originals = [];
      formulas = words 2 0 0 ∷ words 2 1 0 ∷ words 1 0 0 ∷ words 0 0 0 ∷ words 5 0 1 ∷ [];
      effects = words 1 0 0 ∷ words 1 1 0 ∷ words 4 0 1 ∷ words 3 0 2 ∷ [];
      operators = operator 2 3 first 100 ∷ operator 2 1 second 100 ∷ [];
      goal = goal;
    }

-- cheapest, computed
result : (first second goal : ℕ) → Pick
unfolding
    upto formula_kind effect_kind holds effcond value_after apply formula_node formula_within formula_of effect_node effect_within effect_of
    operator_of effect_of_operator goal_holds applicable charge_of charge after_step answer run_on plain_run unstopped is_plan
    behind lists_of lists_upto no_dearer unless_later first_cheapest cheapest
result first second goal = cheapest (task first second goal)

-- v1 by operator 0 twice or by operator 1 once, both for nothing: fewer steps come before lower numbers
pub fewest_steps : cheapest (task 0 0 1) ≡ plan_of (1 ∷ []) 0
unfolding result
fewest_steps = refl

-- the same where operator 1 costs 1: less cost comes before fewer steps
pub least_cost : cheapest (task 0 1 1) ≡ plan_of (0 ∷ 0 ∷ []) 0
unfolding result
least_cost = refl

-- v0 or v1, by either operator at the same cost: the lower number
pub lower_number : cheapest (task 2 2 4) ≡ plan_of (0 ∷ []) 2
unfolding result
lower_number = refl

-- v0 by operator 0
pub only_first : cheapest (task 5 0 0) ≡ plan_of (0 ∷ []) 5
unfolding result
only_first = refl

-- the goal holds at the start: the empty plan
pub at_once : cheapest (task 1 1 2) ≡ plan_of [] 0
unfolding result
at_once = refl

-- it holds nowhere
pub nowhere : cheapest (task 0 0 3) ≡ no_plan
unfolding result
nowhere = refl

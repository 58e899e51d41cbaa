-- Steps and the plain run of a finite-domain task: 01's, with the values of 02, K3. It answers as 01's plain run does.
use Rattle.std.specs.Prelude.{ℕ, ◌+◌, ◌<◌, Bool, cond, ◌&&◌, ◌≡◌, List, [], ◌∷◌, length, get_or, ltb}
use Rattle.task.specs.Table.{Operator}
use Rattle.task.specs.Rules.{no_operator}
use Rattle.task.specs.Run.{charge_of, Progress, Stop, ended, stopped, Run}
use Rattle.finite_domain.specs.Table.{FiniteTask}
use Rattle.finite_domain.specs.Meaning.{FiniteEffect, finite_holds, consistent, finite_apply}
use Rattle.finite_domain.specs.Tree.{finite_formula_of, finite_effect_of}

-- a state of a task: a value below its count for each variable
pub record FiniteState (counts s : List ℕ) : Type 0 where
  pub width : length s ≡ length counts
  pub below : (a : ℕ) → a < length counts → get_or s a 0 < get_or counts a 0

unfoldable pub finite_operator_of : FiniteTask → ℕ → Operator
finite_operator_of t o = get_or t.operators o no_operator

unfoldable pub finite_effect_of_operator : FiniteTask → ℕ → FiniteEffect
finite_effect_of_operator t o = finite_effect_of t.formulas t.effects (finite_operator_of t o).effect

unfoldable pub finite_goal_holds : FiniteTask → List ℕ → Bool
finite_goal_holds t s = finite_holds s (finite_formula_of t.formulas t.goal)

-- An operator is applicable if its precondition holds and it is consistent: "a step that would give a variable two values is not applicable". A number
-- outside the task is applicable in no state.
unfoldable pub finite_applicable : FiniteTask → List ℕ → ℕ → Bool
finite_applicable t s o =
    ltb o (length t.operators)
    && (finite_holds s (finite_formula_of t.formulas (finite_operator_of t o).precondition)
    && consistent t.counts s (finite_effect_of_operator t o))

-- what operator o is charged when it is carried out in state s
unfoldable pub finite_charge : FiniteTask → List ℕ → ℕ → ℕ
finite_charge t s o = charge_of (finite_operator_of t o)

unfoldable pub finite_after_step : FiniteTask → Progress → ℕ → Progress
finite_after_step t p o =
    record {
      state = finite_apply t.counts p.state (finite_effect_of_operator t o);
      steps = p.steps + 1;
      cost = p.cost + finite_charge t p.state o;
    }

unfoldable pub finite_answer : FiniteTask → Progress → Stop → Run
finite_answer t p reason =
    record { state = p.state; steps = p.steps; cost = p.cost; stop = reason; goal = finite_goal_holds t p.state }

-- the numbers are taken from the front, each on the state that the last one left; after a stop the rest is not read
unfoldable pub finite_run_on : FiniteTask → Progress → List ℕ → Run
finite_run_on t p [] = finite_answer t p ended
finite_run_on t p (o ∷ rest) =
    cond (ltb o (length t.operators))
    (cond (finite_applicable t p.state o) (finite_run_on t (finite_after_step t p o) rest) (finite_answer t p (stopped 18)))
    (finite_answer t p (stopped 17))

unfoldable pub finite_run : FiniteTask → List ℕ → List ℕ → Run
finite_run t s numbers = finite_run_on t (record { state = s; steps = 0; cost = 0 }) numbers

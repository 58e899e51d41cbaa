-- Steps and the plain run (01, "Stepping and running").
use Rattle.std.specs.Prelude.{ℕ, ◌+◌, ◌*◌, ◌/◌, Bool, true, false, cond, ◌&&◌, List, [], ◌∷◌, length, get_or, ltb}
use Rattle.task.specs.Table.{Task, Operator}
use Rattle.task.specs.Rules.{no_operator}
use Rattle.task.specs.Semantics.{Effect, holds, apply}
use Rattle.task.specs.Tree.{formula_of, effect_of}

unfoldable pub operator_of : Task → ℕ → Operator
operator_of t o = get_or t.operators o no_operator

unfoldable pub effect_of_operator : Task → ℕ → Effect
effect_of_operator t o = effect_of t.formulas t.effects (operator_of t o).effect

unfoldable pub goal_holds : Task → List ℕ → Bool
goal_holds t s = holds s (formula_of t.formulas t.goal)

-- An operator is applicable if its precondition holds; a number outside the task is applicable in no state. Without the first test number 9 of a
-- task without operators would be applicable if formula 0 is true.
unfoldable pub applicable : Task → List ℕ → ℕ → Bool
applicable t s o =
    ltb o (length t.operators) && holds s (formula_of t.formulas (operator_of t o).precondition)

-- what an operator is charged (02, K2): cost × percent / 100 to the nearest whole, a half upwards. Rounded down, cost 1 at 50 percent would be 0.
unfoldable pub charge_of : Operator → ℕ
charge_of o = (o.cost * o.percent + 50) / 100

-- what operator o is charged when it is carried out in state s
unfoldable pub charge : Task → List ℕ → ℕ → ℕ
charge t s o = charge_of (operator_of t o)

-- what the plain run holds: the state, the steps done and the cost, unbounded
pub record Progress : Type 0 where
  pub state : List ℕ
  pub steps : ℕ
  pub cost : ℕ

unfoldable pub after_step : Task → Progress → ℕ → Progress
after_step t p o =
    record {
      state = apply p.state (effect_of_operator t o);
      steps = p.steps + 1;
      cost = p.cost + charge t p.state o;
    }

-- the reason of a stop: 17, the number is not below O; 18, the operator is not applicable
pub data Stop : Type 0 where
  ended : Stop
  stopped : ℕ → Stop

-- what the plain run answers
pub record Run : Type 0 where
  pub state : List ℕ
  pub steps : ℕ
  pub cost : ℕ
  pub stop : Stop
  pub goal : Bool

unfoldable pub answer : Task → Progress → Stop → Run
answer t p reason =
    record { state = p.state; steps = p.steps; cost = p.cost; stop = reason; goal = goal_holds t p.state }

-- the numbers are taken from the front, each on the state that the last one left; after a stop the rest is not read
unfoldable pub run_on : Task → Progress → List ℕ → Run
run_on t p [] = answer t p ended
run_on t p (o ∷ rest) =
    cond (ltb o (length t.operators))
    (cond (applicable t p.state o) (run_on t (after_step t p o) rest) (answer t p (stopped 18)))
    (answer t p (stopped 17))

unfoldable pub plain_run : Task → List ℕ → List ℕ → Run
plain_run t s numbers = run_on t (record { state = s; steps = 0; cost = 0 }) numbers

-- a plan is an unstopped run that ends with the goal true
unfoldable pub unstopped : Stop → Bool
unstopped ended = true
unstopped (stopped number) = false

unfoldable pub is_plan : Run → Bool
is_plan r = cond (unstopped r.stop) r.goal false

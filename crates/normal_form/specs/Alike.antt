-- What demand 3 says of runs (01, "Stepping and running"): that two of them answer alike, that a number outside the task stops one, and
-- that an operator sets and clears a variable together.
use Rattle.std.specs.Prelude.{ℕ, ◌≡◌, Bool, false, ◌&&◌, List, ◌∷◌}
use Rattle.task.specs.Table.{Task}
use Rattle.task.specs.Semantics.{sets, clears, effcond}
use Rattle.task.specs.Run.{effect_of_operator, applicable, Progress, stopped, Run, answer, run_on, plain_run, is_plan}
use Rattle.task.specs.Corresponding.{Corresponding}

-- A run of the source and one of the compiled task are alike in steps, cost, stop, goal and being a plan, and their last states correspond.
pub record Alike (originals : List ℕ) (r r' : Run) : Type 0 where
  pub states : Corresponding originals r.state r'.state
  pub steps : r.steps ≡ r'.steps
  pub cost : r.cost ≡ r'.cost
  pub stop : r.stop ≡ r'.stop
  pub goal : r.goal ≡ r'.goal
  pub plan : is_plan r ≡ is_plan r'

-- The number is outside the task: it is applicable in no state, and stops a run with 17 where it is met: state, steps and cost stay, and the rest
-- of the list is not read.
pub record Outside (t : Task) (o : ℕ) : Type 0 where
  pub nowhere : (s : List ℕ) → applicable t s o ≡ false
  pub met : (p : Progress) (rest : List ℕ) → run_on t p (o ∷ rest) ≡ answer t p (stopped 17)
  pub first : (s rest : List ℕ) → (plain_run t s (o ∷ rest)).stop ≡ stopped 17

-- Operator o sets and clears variable x together in state s: effcond(set) and effcond(clear) of its effect both hold, its precondition aside.
abbrev pub together : Task → List ℕ → (o x : ℕ) → Bool
together t s o x = effcond s (sets x) (effect_of_operator t o) && effcond s (clears x) (effect_of_operator t o)

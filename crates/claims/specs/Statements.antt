-- What the demands claim, as records: a field for each sentence.
use Rattle.std.specs.Prelude.{ℕ, ◌<◌, ◌≤◌, ◌≡◌, false, List, length, get_or}
use Rattle.task.specs.Table.{Lent, Task, task_of}
use Rattle.task.specs.Check.{refusal}
use Rattle.task.specs.Rules.{Limits, Rules}
use Rattle.task.specs.Run.{effect_of_operator, plain_run}
use Rattle.task.specs.Corresponding.{Corresponding}
use Rattle.normal_form.specs.Finished.{finished}
use Rattle.normal_form.specs.Positive.{Positive, PositiveTask}
use Rattle.normal_form.specs.Flat.{Flat}
use Rattle.normal_form.specs.Alike.{Alike, Outside, together}

-- A list of bytes.
pub record OfBytes (file : List ℕ) : Type 0 where
  pub byte : (i : ℕ) → i < length file → get_or file i 0 < 256

-- A task compiles if its tables pass, W is 0 and the finished task keeps the limits, whatever is lent (01, "Stepping and running").
pub record Compiles (t : Task) : Type 0 where
  pub rules : Rules t
  pub untwinned : length t.originals ≡ 0
  pub room : Limits (finished t)

-- Demand 2, of a compiled task's tables: they pass the check and hold a task that keeps the rules; no row of the formula table has a negation symbol, so none is in the goal, the
-- preconditions and the effect conditions; every operator's effect is flat.
pub record NormalForm (l : Lent) : Type 0 where
  pub passes : refusal l ≡ 0
  pub keeps : Rules (task_of l)
  pub positive_rows : Positive (task_of l)
  pub positive : PositiveTask (task_of l)
  pub flat : (o : ℕ) → Flat (effect_of_operator (task_of l) o)

-- Demand 3, of a source task and its compiled task.
pub record RunsAlike (source compiled : Task) : Type 0 where
  -- For every list of operator numbers, of any length, and every pair of corresponding states, the two plain runs are alike: in steps, cost,
  -- stop, goal, in being a plan, and their last states correspond.
  pub runs :
      (s s' numbers : List ℕ)
      → length s ≡ length source.initial
      → Corresponding compiled.originals s s'
      → Alike compiled.originals (plain_run source s numbers) (plain_run compiled s' numbers)
  -- The two initial states correspond.
  pub initially : Corresponding compiled.originals source.initial compiled.initial
  -- In corresponding states no compiled operator sets and clears a variable together, an original or a twin, whatever its precondition says.
  pub free :
      (s s' : List ℕ)
      → length s ≡ length source.initial
      → Corresponding compiled.originals s s'
      → (o x : ℕ)
      → together compiled s' o x ≡ false
  -- A number outside the task is applicable in neither, whatever the states, and both runs stop at it with 17.
  pub outside : (o : ℕ) → length source.operators ≤ o → Outside source o × Outside compiled o

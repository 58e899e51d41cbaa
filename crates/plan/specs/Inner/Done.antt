-- A run where nothing refuses it, and a run before its scratch is cleared.
use Rattle.std.specs.Prelude.{ℕ, ◌≡◌, List}
use Rattle.task.specs.Table.{Task}
use Rattle.task.specs.Run.{plain_run}
use Rattle.plan.specs.Outcome.{RunOutcome, Ran, run_answer}

-- What a run leaves where nothing refuses it: the plain run's answer and its state. Scratch is left open: `run` clears it.
pub record RunDone (t : Task) (s numbers : List ℕ) (r : RunOutcome) (after : List ℕ) : Type 0 where
  pub answer : r ≡ run_answer (plain_run t s numbers)
  pub state : after ≡ (plain_run t s numbers).state

-- The answer and the state are the definition's, refusals too.
pub record RunTold (w : Ran) (r : RunOutcome) (after : List ℕ) : Type 0 where
  pub answer : r ≡ w.answer
  pub state : after ≡ w.state

-- What the exported step and run leave, from what `stepped` and `ran` yield.
use Rattle.std.specs.Prelude.{ℕ, ◌≡◌, List, [], ◌∷◌}
use Rattle.stepper.specs.Stepped.{StepOutcome}
use Rattle.plan.specs.Outcome.{Stepped, Ran, RunOutcome, End, Ended, Stopped, Refused}
use Rattle.test_calls.specs.Buffers.{told_words, flag_word}

-- steps, cost, goal
unfoldable pub step_words : StepOutcome → List ℕ
step_words a = a.steps ∷ a.cost ∷ flag_word a.goal ∷ []

-- a stop by 17 or 18 is no refusal
abbrev pub refusal_of : End → ℕ
refusal_of (Ended goal) = 0
refusal_of (Stopped number step) = 0
refusal_of (Refused number) = number

abbrev pub stop_told : End → ℕ
stop_told (Ended goal) = 0
stop_told (Stopped number step) = number
stop_told (Refused number) = 0

abbrev pub stop_step : End → ℕ
stop_step (Ended goal) = 0
stop_step (Stopped number step) = step
stop_step (Refused number) = 0

abbrev pub ended_goal : End → ℕ
ended_goal (Ended goal) = flag_word goal
ended_goal (Stopped number step) = 0
ended_goal (Refused number) = 0

-- steps, cost, goal; the stop's number and step; the goal of a run that ended
unfoldable pub run_words : RunOutcome → List ℕ
run_words a =
    a.steps ∷ a.cost ∷ flag_word a.goal ∷ stop_told a.end ∷ stop_step a.end ∷ ended_goal a.end ∷ []

pub record StepTells (w : Stepped) (before : List ℕ) (r : ℕ) (state scratch result : List ℕ) : Type 0 where
  pub number : r ≡ w.answer.refusal
  pub state_left : state ≡ w.state
  pub scratch_left : scratch ≡ w.scratch
  pub words : result ≡ told_words (step_words w.answer) before

pub record RunTells (w : Ran) (before : List ℕ) (r : ℕ) (state scratch result : List ℕ) : Type 0 where
  pub number : r ≡ refusal_of w.answer.end
  pub state_left : state ≡ w.state
  pub scratch_left : scratch ≡ w.scratch
  pub words : result ≡ told_words (run_words w.answer) before

-- What a run gives, refusals too (01, "Stepping and running" and "Where each number is given"): the answer, and the state and the scratch at
-- exit, from the inputs alone. What a step gives is the stepper's, and is passed on.
use Rattle.std.specs.Prelude.{ℕ, zero, suc, ◌≡◌, Bool, false, Result, Ok, Err, List}
use Rattle.task.specs.declared.refusal.Refusal.{Refusal}
use Rattle.task.specs.Refused.{number_of}
use Rattle.task.specs.Table.{Lent, task_of}
unfoldable pub use Rattle.task.specs.Check.{sequence_kept}
use Rattle.task.specs.Check.{unless}
use Rattle.task.specs.Run.{Run, Stop, ended, stopped, plain_run}
use Rattle.stepper.specs.Stepped.{first_of}
unfoldable pub use Rattle.stepper.specs.Stepped.{state_kept, step_scratch_kept, early_refusal, step_refused, step_told, step_by, stepped}
pub use Rattle.stepper.specs.Stepped.{Stepped, cleared, StepGives}
use Rattle.plan.specs.declared.outcome.RunOutcome.{RunOutcome as Outcome}
use Rattle.plan.specs.declared.outcome.End.{End as Ending}
use Rattle.plan.specs.declared.outcome.End.TheVariants as e

-- How a run came to its end: every number was carried out, and whether the goal holds; 17 or 18, and the steps done before it; or the call was
-- refused before its first number was looked at.
pub data End : Type 0 where
  Ended : Bool → End
  Stopped : (number step : ℕ) → End
  Refused : ℕ → End

-- A run: the steps done, their summed cost, whether the goal holds in the last state, and how the run came to its end.
pub record RunOutcome : Type 0 where
  pub steps : ℕ
  pub cost : ℕ
  pub goal : Bool
  pub end : End

-- what the code answers, as that
abbrev pub end_told : Ending → End
end_told (e.Ended goal) = Ended goal
end_told (e.Stopped number step) = Stopped (number_of number) step

abbrev pub outcome_told : Outcome → RunOutcome
outcome_told x = record { steps = x.steps; cost = x.cost; goal = x.goal; end = end_told x.end }

abbrev pub run_answered : Result Outcome Refusal → RunOutcome
run_answered (Ok x) = outcome_told x
run_answered (Err r) = record { steps = 0; cost = 0; goal = false; end = Refused (number_of r) }

-- what refuses a run: what refuses a step, then 19
unfoldable pub run_refusal : Lent → (state numbers scratch : List ℕ) → ℕ
run_refusal l s numbers scratch = first_of (early_refusal l s scratch) (unless (sequence_kept numbers) 19 0)

-- What a call of `run` leaves.
pub record Ran : Type 0 where
  pub answer : RunOutcome
  pub state : List ℕ
  pub scratch : List ℕ

-- a refusal: 0 steps, cost 0, no goal, and the state as it was
unfoldable pub run_refused : ℕ → (state scratch : List ℕ) → Ran
run_refused number s scratch =
    record {
      answer = record { steps = 0; cost = 0; goal = false; end = Refused number };
      state = s;
      scratch = cleared scratch;
    }

unfoldable pub end_of : Stop → (steps : ℕ) → (goal : Bool) → End
end_of ended steps goal = Ended goal
end_of (stopped number) steps goal = Stopped number steps

-- a run tells what the plain run answers. A run that stops in a goal state tells the goal, and is no plan.
unfoldable pub run_answer : Run → RunOutcome
run_answer r = record { steps = r.steps; cost = r.cost; goal = r.goal; end = end_of r.stop r.steps r.goal }

unfoldable pub run_told : Run → List ℕ → Ran
run_told r scratch = record { answer = run_answer r; state = r.state; scratch = cleared scratch }

-- the outcome of `run`, by its refusal
unfoldable pub run_by : ℕ → Lent → (state numbers scratch : List ℕ) → Ran
run_by zero l s numbers scratch = run_told (plain_run (task_of l) s numbers) scratch
run_by (suc n) l s numbers scratch = run_refused (suc n) s scratch

unfoldable pub ran : Lent → (state numbers scratch : List ℕ) → Ran
ran l s numbers scratch = run_by (run_refusal l s numbers scratch) l s numbers scratch

-- What the contract of `run` says: the answer, the state and the scratch at exit are the definition's.
pub record RunGives (w : Ran) (r : RunOutcome) (after rest : List ℕ) : Type 0 where
  pub answer : r ≡ w.answer
  pub state : after ≡ w.state
  pub scratch : rest ≡ w.scratch

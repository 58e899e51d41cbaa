-- Laws of the call: each way out gives what the call's definition gives. Assumes nothing.
use Prim.Native.Nat.{ℕ, zero, suc}
use native.Mathlib.Nat.{zero-add}
use mathlib.Core.Path.{◌≡◌, refl, sym, ap, ◌∙◌}
use mathlib.Core.Bool.{Bool, false}
use mathlib.Core.List.{List, [], ◌∷◌}
use lib.ListN.{length, replicate}
use Rattle.task.specs.Table.{Lent, task_of}
use Rattle.task.specs.Run.{Run, Progress, Stop, ended, stopped, goal_holds, answer, run_on, plain_run}
use Rattle.operator_step.specs.Inner.Steps.{Taken, took, Takes}
use Rattle.operator_step.proofs.Going.{goes_on, stops}
use Rattle.stepper.specs.Stepped.{StepOutcome, early_refusal, cleared, step_refused, step_told, step_by, stepped, StepGives}
use Rattle.stepper.specs.Inner.Done.{StepDone}

-- a step is refused before its operator is looked at
module _ (l : Lent) (s : List ℕ) (o : ℕ) (scratch : List ℕ) where
  pub step_refuses :
      (number : ℕ)
      → number ≡ early_refusal l s scratch
      → (number ≡ 0 → ⊥)
      → StepDone (stepped l s o scratch) (record { refusal = number; steps = 0; cost = 0; goal = false }) s
  unfolding stepped step_by step_refused
  step_refuses number asked d = rw (← asked) (go number d)
    where
      go :
          (n : ℕ)
          → (n ≡ 0 → ⊥)
          → StepDone (step_by n l s o scratch) (record { refusal = n; steps = 0; cost = 0; goal = false }) s
      go zero d = absurd (d refl)
      go (suc n) d = record { answer = refl; state = refl }

-- nothing refuses it before: its operator stops it, or it is done
module _
    (l : Lent) (s : List ℕ) (o : ℕ) (scratch : List ℕ) (free : 0 ≡ early_refusal l s scratch)
    {r : Taken} {after : List ℕ} (taken : Takes (task_of l) s o r after) where
  start : Progress
  start = record { state = s; steps = 0; cost = 0 }

  stop_same : r.stop ≡ (took (task_of l) s o).answer.stop
  stop_same = ap (λ (x : Taken). x.stop) taken.answer

  as_told :
      (x : StepOutcome) (w : Run)
      → plain_run (task_of l) s (o ∷ []) ≡ w
      → x ≡ (step_told w.stop w s scratch).answer
      → after ≡ (step_told w.stop w s scratch).state
      → StepDone (stepped l s o scratch) x after
  unfolding stepped step_by
  as_told x w q one two = rw (← free, q) (record { answer = one; state = two })

  pub step_stopped :
      (r.stop ≡ 0 → ⊥) → StepDone (stepped l s o scratch) (record { refusal = r.stop; steps = 0; cost = 0; goal = false }) after
  unfolding plain_run answer step_told step_refused start
  step_stopped d =
      as_told (record { refusal = r.stop; steps = 0; cost = 0; goal = false }) (answer (task_of l) start (stopped r.stop)) whole refl
      (taken.state ∙ ways.1)
    where
      ways :
          (run_on (task_of l) start (o ∷ []) ≡ answer (task_of l) start (stopped (took (task_of l) s o).answer.stop))
          × ((took (task_of l) s o).state ≡ s)
      ways = stops (task_of l) start o [] (λ z. d (stop_same ∙ z))

      whole : plain_run (task_of l) s (o ∷ []) ≡ answer (task_of l) start (stopped r.stop)
      whole = ways.0 ∙ ap (λ (n : ℕ). answer (task_of l) start (stopped n)) (sym stop_same)

  pub step_finished :
      r.stop ≡ 0
      → {goal : Bool}
      → goal ≡ goal_holds (task_of l) after
      → StepDone (stepped l s o scratch) (record { refusal = 0; steps = 1; cost = r.charge; goal = goal }) after
  unfolding plain_run run_on answer step_told start
  step_finished e {goal} told =
      as_told (record { refusal = 0; steps = 1; cost = r.charge; goal = goal }) (answer (task_of l) done ended) whole (rw told) refl
    where
      done : Progress
      done = record { state = after; steps = 1; cost = r.charge }

      whole : plain_run (task_of l) s (o ∷ []) ≡ answer (task_of l) done ended
      whole =
          goes_on (task_of l) start o [] (sym stop_same ∙ e)
          ∙ rw (zero-add (took (task_of l) s o).answer.charge, taken.answer, taken.state)

-- scratch always ends as 0
told_cleared : (q : Stop) (w : Run) (s scratch : List ℕ) → cleared scratch ≡ (step_told q w s scratch).scratch
unfolding step_told step_refused
told_cleared ended w s scratch = refl
told_cleared (stopped n) w s scratch = refl

by_cleared : (n : ℕ) (l : Lent) (s : List ℕ) (o : ℕ) (scratch : List ℕ) → cleared scratch ≡ (step_by n l s o scratch).scratch
unfolding step_by step_refused
by_cleared zero l s o scratch = let w = plain_run (task_of l) s (o ∷ []) in told_cleared w.stop w s scratch
by_cleared (suc n) l s o scratch = refl

pub step_gives :
    (l : Lent) (s : List ℕ) (o : ℕ) (scratch : List ℕ) {r : StepOutcome} {after : List ℕ} (mid : List ℕ) {rest : List ℕ}
    → StepDone (stepped l s o scratch) r after
    → length mid ≡ length scratch
    → rest ≡ cleared mid
    → StepGives (stepped l s o scratch) r after rest
unfolding stepped
step_gives l s o scratch mid done same z =
    record {
      answer = done.answer;
      state = done.state;
      scratch = z ∙ ap (λ (n : ℕ). replicate n 0) same ∙ by_cleared (early_refusal l s scratch) l s o scratch;
    }

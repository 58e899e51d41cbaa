-- What a step gives, refusals too (01, "Stepping and running" and "Where each number is given"): the answer, and the state and the scratch at
-- exit, from the inputs alone.
use Rattle.std.specs.Prelude.{ℕ, zero, suc, ◌+◌, ◌≡◌, Bool, false, Result, Ok, Err, List, [], ◌∷◌, length, replicate, leb}
use Rattle.task.specs.declared.Head.{Head}
use Rattle.task.specs.declared.refusal.Refusal.{Refusal}
use Rattle.task.specs.Refused.{number_of}
use Rattle.task.specs.Table.{Lent, task_of}
unfoldable pub use Rattle.task.specs.Check.{state_kept}
use Rattle.task.specs.Check.{refusal, unless}
use Rattle.task.specs.Run.{Run, Stop, ended, stopped, plain_run}
use Rattle.stepper.specs.declared.StepOutcome.{StepOutcome as Step}

-- 14: F + E bytes, of any content. One byte fewer is refused even if the operator's own rows would fit.
unfoldable pub step_scratch_kept : Head → List ℕ → Bool
step_scratch_kept h scratch = leb (h.formulas + h.effects) (length scratch)

-- the first number, unless it is 0
abbrev pub first_of : ℕ → ℕ → ℕ
first_of zero rest = rest
first_of (suc n) rest = suc n

-- what refuses a step before its operator is looked at: the tables' own, 16, 14. A wrong state with too short a scratch is 16.
unfoldable pub early_refusal : Lent → (state scratch : List ℕ) → ℕ
early_refusal l s scratch =
    first_of (refusal l) (unless (state_kept l.head.variables s) 16 (unless (step_scratch_kept l.head scratch) 14 0))

-- A single step. Done: refusal 0, 1 step, its charge, and whether the goal holds after it. Refused: the number, and nothing else.
pub record StepOutcome : Type 0 where
  pub refusal : ℕ
  pub steps : ℕ
  pub cost : ℕ
  pub goal : Bool

-- what the code answers, as that
abbrev pub step_answered : Result Step Refusal → StepOutcome
step_answered (Ok x) = record { refusal = 0; steps = x.steps; cost = x.cost; goal = x.goal }
step_answered (Err e) = record { refusal = number_of e; steps = 0; cost = 0; goal = false }

-- What a call of `step` leaves.
pub record Stepped : Type 0 where
  pub answer : StepOutcome
  pub state : List ℕ
  pub scratch : List ℕ

-- scratch always ends as 0, whatever stood in it and however short it was
abbrev pub cleared : List ℕ → List ℕ
cleared scratch = replicate (length scratch) 0

-- a refusal: 0 steps, cost 0, no goal, and the state as it was
unfoldable pub step_refused : ℕ → (state scratch : List ℕ) → Stepped
step_refused number s scratch =
    record {
      answer = record { refusal = number; steps = 0; cost = 0; goal = false };
      state = s;
      scratch = cleared scratch;
    }

-- a step is the plain run of its one number; its 17 and 18 are refusals, so a step that is not applicable in a goal state tells no goal
unfoldable pub step_told : Stop → Run → (state scratch : List ℕ) → Stepped
step_told ended r s scratch =
    record {
      answer = record { refusal = 0; steps = r.steps; cost = r.cost; goal = r.goal };
      state = r.state;
      scratch = cleared scratch;
    }
step_told (stopped number) r s scratch = step_refused number s scratch

-- the outcome of `step`, by its early refusal
unfoldable pub step_by : ℕ → Lent → (state : List ℕ) → ℕ → (scratch : List ℕ) → Stepped
step_by zero l s o scratch =
    let r = plain_run (task_of l) s (o ∷ []) in
    step_told r.stop r s scratch
step_by (suc n) l s o scratch = step_refused (suc n) s scratch

unfoldable pub stepped : Lent → (state : List ℕ) → ℕ → (scratch : List ℕ) → Stepped
stepped l s o scratch = step_by (early_refusal l s scratch) l s o scratch

-- What the contract of `step` says: the answer, the state and the scratch at exit are the definition's.
pub record StepGives (w : Stepped) (r : StepOutcome) (after rest : List ℕ) : Type 0 where
  pub answer : r ≡ w.answer
  pub state : after ≡ w.state
  pub scratch : rest ≡ w.scratch

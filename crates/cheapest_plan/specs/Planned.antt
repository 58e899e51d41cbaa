-- What the call `cheapest` gives, refusals too (02, K1): the answer, and the plan's buffer and both scratches at exit, from the inputs alone.
use Rattle.std.specs.Prelude.{ℕ, zero, suc, ◌*◌, ◌^◌, ◌≡◌, Bool, cond, ◌&&◌, List, length, leb, Result, Ok, Err}
use Rattle.task.specs.declared.Head.{Head}
use Rattle.task.specs.declared.refusal.Refusal.{Refusal}
use Rattle.task.specs.Table.{Lent, task_of}
use Rattle.task.specs.Refused.{number_of}
use Rattle.task.specs.Check.{refusal, unless}
use Rattle.task.specs.Words.{padded}
use Rattle.stepper.specs.Stepped.{first_of, cleared, step_scratch_kept}
use Rattle.cheapest_plan.specs.declared.CheapestPlan.{CheapestPlan}
use Rattle.cheapest_plan.specs.Cheapest.{Pick, no_plan, plan_of, cheapest}

-- 21: twins count. A compiled task of 11 variables, 5 of them twins, is refused, though its source of 6 is not.
unfoldable pub few_variables : Head → Bool
few_variables h = leb h.variables 10

-- 14: the stepper's F + E bytes, and four words for each of the 2^V states. Either one too short is 14; V 0 has one state, so four words.
unfoldable pub search_scratch_kept : Head → (scratch words : List ℕ) → Bool
search_scratch_kept h scratch words = step_scratch_kept h scratch && leb (4 * 2 ^ h.variables) (length words)

-- what refuses the call before it searches: the tables' own, 21, 14. With 11 variables and no scratch it is 21.
unfoldable pub search_refusal : Lent → (scratch words : List ℕ) → ℕ
search_refusal l scratch words =
    first_of (refusal l) (unless (few_variables l.head) 21 (unless (search_scratch_kept l.head scratch words) 14 0))

-- What the call answers: a plan, with refusal 0, its steps and its cost; or the number of a refusal, and nothing else.
pub record CheapestOutcome : Type 0 where
  pub refusal : ℕ
  pub steps : ℕ
  pub cost : ℕ

-- what the code's answer tells
abbrev pub plan_answered : Result CheapestPlan Refusal → CheapestOutcome
plan_answered (Ok p) = record { refusal = 0; steps = p.steps; cost = p.cost }
plan_answered (Err e) = record { refusal = number_of e; steps = 0; cost = 0 }

-- What the call leaves.
pub record Planned : Type 0 where
  pub answer : CheapestOutcome
  pub plan : List ℕ
  pub scratch : List ℕ
  pub words : List ℕ

-- a refusal: 0 steps, cost 0, the plan's buffer all 0; scratch always ends as 0
unfoldable pub plan_refused : ℕ → (plan scratch words : List ℕ) → Planned
plan_refused number plan scratch words =
    record {
      answer = record { refusal = number; steps = 0; cost = 0 };
      plan = cleared plan;
      scratch = cleared scratch;
      words = cleared words;
    }

-- a plan that the buffer has room for: its numbers, then 0
unfoldable pub plan_written : (numbers : List ℕ) → (cost : ℕ) → (plan scratch words : List ℕ) → Planned
plan_written numbers cost plan scratch words =
    record {
      answer = record { refusal = 0; steps = length numbers; cost = cost };
      plan = padded (length plan) numbers;
      scratch = cleared scratch;
      words = cleared words;
    }

-- 22, no plan; 23, the plan is longer than the buffer. Where the goal holds at the start the plan is empty and no buffer is too short for it.
unfoldable pub plan_told : Pick → (plan scratch words : List ℕ) → Planned
plan_told no_plan plan scratch words = plan_refused 22 plan scratch words
plan_told (plan_of numbers cost) plan scratch words =
    cond (leb (length numbers) (length plan)) (plan_written numbers cost plan scratch words)
    (plan_refused 23 plan scratch words)

-- the outcome, by what refuses the call before it searches
unfoldable pub planned_by : ℕ → Lent → (plan scratch words : List ℕ) → Planned
planned_by zero l plan scratch words = plan_told (cheapest (task_of l)) plan scratch words
planned_by (suc n) l plan scratch words = plan_refused (suc n) plan scratch words

unfoldable pub planned : Lent → (plan scratch words : List ℕ) → Planned
planned l plan scratch words = planned_by (search_refusal l scratch words) l plan scratch words

-- What the contract of `cheapest` says: the answer, the plan's buffer and both scratches at exit are the definition's.
pub record PlanGives (w : Planned) (r : CheapestOutcome) (numbers rest tables : List ℕ) : Type 0 where
  pub answer : r ≡ w.answer
  pub plan : numbers ≡ w.plan
  pub scratch : rest ≡ w.scratch
  pub words : tables ≡ w.words

-- What is claimed of the cheapest plan (02, K1), over lists of operator numbers of any length.
use Rattle.std.specs.Prelude.{ℕ, ◌+◌, ◌-◌, ◌*◌, ◌^◌, ◌≤◌, ◌≡◌, List, length, get_or, take, drop}
use Rattle.task.specs.Table.{Lent, Task, task_of}
use Rattle.task.specs.Rules.{Checked, Rules, LongEnough}
use Rattle.file_format.specs.Bytes.{file_of}
use Rattle.file_format.specs.Reading.{accepted, reading}
use Rattle.cheapest_plan.specs.Order.{FirstByNumbers, Plan, cost_of, Least}
use Rattle.cheapest_plan.specs.Planned.{Planned}
use Rattle.entry_tables.specs.Own.{own}
use Rattle.layouts.specs.Layout.{low_bytes, numbers_of}
use Rattle.run_entry.specs.Entry.{RunEntry}
use Rattle.plan_entry.specs.Entry.{PlanEntry}
use Rattle.claims.specs.Numbers.{Given, no_rule_left, tables_numbers, FileNumber}
use Rattle.claims.specs.Zero.{AllZero, ZeroPast}

-- "the plan of least cost from the initial state; among those the one with fewest steps; among those the first by operator numbers, compared from the
-- front"
pub record CheapestPlan (t : Task) (numbers : List ℕ) (cost : ℕ) : Type 0 where
  pub plan : Plan t numbers
  pub charged : cost ≡ cost_of t numbers
  pub least_cost : (other : List ℕ) → Plan t other → cost ≤ cost_of t other
  pub fewest_steps : (other : List ℕ) → Plan t other → cost_of t other ≡ cost → length numbers ≤ length other
  pub first : (other : List ℕ) → Plan t other → cost_of t other ≡ cost → FirstByNumbers other numbers → ⊥
  pub short : length numbers ≤ 2 ^ length t.initial - 1

-- what a call that is not refused tells: the steps and the cost of the cheapest plan, whose numbers stand in front of the buffer
pub record PlanTold (t : Task) (w : Planned) : Type 0 where
  pub numbers : List ℕ
  pub cheapest : CheapestPlan t numbers w.answer.cost
  pub steps : w.answer.steps ≡ length numbers
  pub written : take w.answer.steps w.plan ≡ numbers

-- Which number the call gives: the tables' own, 21, 14, 22, 23
pub record SearchRoom (l : Lent) (scratch words : List ℕ) : Type 0 where
  pub bytes : l.head.formulas + l.head.effects ≤ length scratch
  pub states : 4 * 2 ^ l.head.variables ≤ length words

pub record HasPlan (t : Task) : Type 0 where
  pub numbers : List ℕ
  pub plan : Plan t numbers

-- the plan that no plan comes before is no longer than n
pub record PlanFits (t : Task) (n : ℕ) : Type 0 where
  pub fits : (numbers : List ℕ) → Least t numbers → length numbers ≤ n

abbrev pub plan_numbers : Lent → (plan scratch words : List ℕ) → ℕ → Type 0
plan_numbers l plan scratch words =
    tables_numbers l
    (Given (l.head.variables ≤ 10) 21
    (Given (SearchRoom l scratch words) 14
    (Given (HasPlan (task_of l)) 22 (Given (PlanFits (task_of l) (length plan)) 23 no_rule_left))))

pub record PlanKept (l : Lent) (plan scratch words : List ℕ) : Type 0 where
  pub tables : LongEnough l × Checked (task_of l)
  pub few_variables : l.head.variables ≤ 10
  pub room : SearchRoom l scratch words
  pub exists : HasPlan (task_of l)
  pub output : PlanFits (task_of l) (length plan)

-- What the call leaves: after a refusal 0 steps, cost 0 and a buffer of 0; after success 0 past the plan; both scratches 0 always
pub record NoPlanGiven (n : ℕ) (o : Planned) : Type 0 where
  pub no_steps : o.answer.steps ≡ 0
  pub no_cost : o.answer.cost ≡ 0
  pub plan : AllZero n o.plan

pub record PlanLeaves (plan scratch words : List ℕ) (o : Planned) : Type 0 where
  pub after_refusal : (o.answer.refusal ≡ 0 → ⊥) → NoPlanGiven (length plan) o
  pub after_success : o.answer.refusal ≡ 0 → ZeroPast o.answer.steps (length plan) o.plan
  pub bytes : AllZero (length scratch) o.scratch
  pub states : AllZero (length words) o.words

-- pnf_plan: 21, then 20, the result of r bytes too short, then 22, then 23, out of o bytes shorter than two bytes a step
pub record PlanBytesFit (t : Task) (o : ℕ) : Type 0 where
  pub fits : (numbers : List ℕ) → Least t numbers → 2 * length numbers ≤ o

abbrev pub plan_entry_numbers : (file : List ℕ) → (o r : ℕ) → ℕ → Type 0
plan_entry_numbers file o r =
    FileNumber file
    (λ t.
    Given (length t.initial ≤ 10) 21
    (Given (12 ≤ r) 20 (Given (HasPlan t) 22 (Given (PlanBytesFit t o) 23 no_rule_left))))

pub record PlanEntryKept (file : List ℕ) (o r : ℕ) : Type 0 where
  pub task : Task
  pub same : file ≡ file_of task
  pub rules : Rules task
  pub few_variables : length task.initial ≤ 10
  pub result : 12 ≤ r
  pub exists : HasPlan task
  pub output : PlanBytesFit task o

-- What it leaves: after a refusal both outputs all 0. After success a task was read; the numbers of its cheapest plan stand in front of out, as running
-- reads them, its steps in 4 and its cost in 8 bytes in front of the result, and all past them is 0.
pub record NoPlanForC (o r : ℕ) (w : PlanEntry) : Type 0 where
  pub out : AllZero o w.out
  pub result : AllZero r w.result

pub record PlanForC (file : List ℕ) (o r : ℕ) (w : PlanEntry) : Type 0 where
  pub task : Task
  pub read : reading own file ≡ accepted task
  pub numbers : List ℕ
  pub cost : ℕ
  pub cheapest : CheapestPlan task numbers cost
  pub written : numbers_of (take (2 * length numbers) w.out) ≡ numbers
  pub steps : take 4 w.result ≡ low_bytes 4 (length numbers)
  pub charged : take 8 (drop 4 w.result) ≡ low_bytes 8 cost
  pub few_steps : length numbers ≤ 1023
  pub out : ZeroPast (2 * length numbers) o w.out
  pub result : ZeroPast 12 r w.result

pub record PlanEntryLeaves (file : List ℕ) (o r : ℕ) (w : PlanEntry) : Type 0 where
  pub after_refusal : (w.number ≡ 0 → ⊥) → NoPlanForC o r w
  pub after_success : w.number ≡ 0 → PlanForC file o r w

-- The numbers that were given, run by pnf_run: it is told to be a plan, of the same steps and cost.
pub record PlanRuns (w : PlanEntry) (run : RunEntry) : Type 0 where
  pub number : run.number ≡ 0
  pub plan : get_or run.result 13 0 ≡ 1
  pub same_steps : take 4 run.result ≡ take 4 w.result
  pub same_cost : take 8 (drop 4 run.result) ≡ take 8 (drop 4 w.result)

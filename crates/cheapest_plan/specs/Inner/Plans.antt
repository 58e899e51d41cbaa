-- What the inner functions of the call ask and leave. Only their contracts cite this file.
use Rattle.std.specs.Prelude.{ℕ, ◌*◌, ◌^◌, ◌≤◌, ◌<◌, ◌≡◌, Option, Some, None, List, [], length, take}
use Rattle.task.specs.Table.{Lent, Task}
use Rattle.task.specs.Rules.{Checked}
use Rattle.task.specs.Run.{charge}
use Rattle.stepper.specs.Stepped.{cleared}
use Rattle.cheapest_plan.specs.Cheapest.{Pick, no_plan, plan_of, cheapest}
use Rattle.cheapest_plan.specs.Planned.{CheapestOutcome, Planned, plan_told}
use Rattle.cheapest_plan.specs.Inner.Visits.{TaskIn, EndFound}

-- what the search asks of the tables and of both scratches
pub record PlanReady (l : Lent) (scratch words : List ℕ) : Type 0 where
  pub t : Task
  pub tables : TaskIn t l
  pub passes : Checked t
  pub cheap : (s : List ℕ) (o : ℕ) → charge t s o ≤ 131070
  pub starts : t.initial ≡ take l.head.variables l.initial
  pub few : l.head.variables ≤ 10
  pub there : l.head.variables ≤ length l.initial
  pub effects : l.head.effects ≤ 4096
  pub room : l.head.formulas ≤ length scratch
  pub words_room : 4 * 2 ^ l.head.variables ≤ length words

-- the best end, or none
pub record BestEnd (t : Task) (n : ℕ) (words : List ℕ) (r : ℕ) : Type 0 where
  pub below : r < n
  pub found : EndFound t n r words

abbrev pub PlanEnd : Task → ℕ → List ℕ → Option ℕ → Type 0
PlanEnd t n words (Some r) = BestEnd t n words r
PlanEnd t n words None = cheapest t ≡ no_plan

pub record EndsPlan (l : Lent) (scratch before : List ℕ) (n : ℕ) (after : List ℕ) (r : Option ℕ) : Type 0 where
  pub told : (v : PlanReady l scratch before) → PlanEnd v.t n after r

-- what is told of a plan, or of none, and what stands in the plan's buffer, which was all 0
pub record PlanTold (pick : Pick) (before : List ℕ) (r : CheapestOutcome) (after : List ℕ) : Type 0 where
  pub answer : r ≡ (plan_told pick before [] []).answer
  pub plan : after ≡ (plan_told pick before [] []).plan

pub record TellReady (n end : ℕ) (words plan : List ℕ) : Type 0 where
  pub t : Task
  pub there : end < n
  pub found : EndFound t n end words
  pub clear : plan ≡ cleared plan

pub record TellsPlan (n end : ℕ) (words before : List ℕ) (r : CheapestOutcome) (after : List ℕ) : Type 0 where
  pub told : (v : TellReady n end words before) → PlanTold (plan_of v.found.p v.found.c) before r after

-- the answer and the plan's buffer are those of the outcome
pub record PlanFound (w : Planned) (r : CheapestOutcome) (numbers : List ℕ) : Type 0 where
  pub answer : r ≡ w.answer
  pub plan : numbers ≡ w.plan

-- What the functions of the search ask and leave: states are taken from the queue, the operators are stepped from each, and the best end is looked for.
-- Only the contracts of inner functions cite this file. What a function leaves is said of every task that its tables and words hold.
use Rattle.std.specs.Prelude.{ℕ, ◌+◌, ◌*◌, ◌≤◌, ◌<◌, ◌≡◌, Bool, true, false, Option, Some, None, List, length, get_or}
use Rattle.task.specs.Bounded.{upto}
use Rattle.task.specs.Table.{Lent, Task, row_at, operator_at, operator_width}
use Rattle.task.specs.Semantics.{holds}
use Rattle.task.specs.Tree.{formula_of}
use Rattle.task.specs.Run.{goal_holds, operator_of, applicable}
use Rattle.task.specs.Inner.Rows.{FormulaKept}
use Rattle.task.specs.Inner.Values.{bit, Values}
use Rattle.operator_step.specs.Inner.Steps.{TablesReady}
use Rattle.state_codes.specs.Inner.Masks.{next_code}
use Rattle.state_queue.specs.Inner.Queue.{winner, Roomy, Queue, queued as is_queued}
use Rattle.cheapest_plan.specs.declared.expand.Origin.{Origin}
use Rattle.cheapest_plan.specs.Cheapest.{no_plan, plan_of, cheapest}
use Rattle.cheapest_plan.specs.Order.{FirstByNumbers}
use Rattle.cheapest_plan.specs.Inner.Leads.{next}
use Rattle.cheapest_plan.specs.Inner.States.{state_of}
use Rattle.cheapest_plan.specs.Inner.Search.{NoLater, Status, queued, Searching, LeastKey}
use Rattle.cheapest_plan.specs.Inner.Tables.{Ends, Holds, Ground, Stepping, Noting, Zeros}

-- The tables hold the task.
pub record TaskIn (t : Task) (l : Lent) : Type 0 where
  pub variables : length t.initial ≡ l.head.variables
  pub formulas : t.formulas ≡ upto l.head.formulas (row_at l.formulas)
  pub effects : t.effects ≡ upto l.head.effects (row_at l.effects)
  pub operators : t.operators ≡ upto l.head.operators (operator_at l.operators)
  pub goal : t.goal ≡ l.head.goal
  pub ready : TablesReady l
  pub few : l.head.operators ≤ 256

-- What is asked where operators are stepped from the state of code `state`, which was taken with list p: whether each is applicable there, and where it
-- leads.
pub record Stage (n : ℕ) (operators : List ℕ) (count state cost steps : ℕ) (values masks : List ℕ) : Type 0 where
  pub t : Task
  pub ground : Ground t n
  pub number : length t.operators ≡ count
  pub few : count ≤ 256
  pub there : operator_width * count ≤ length operators
  pub here : state < n
  pub row : (i : ℕ) → i < count → operator_of t i ≡ operator_at operators i
  pub precondition : (i : ℕ) → i < count → (operator_at operators i).precondition < length values
  pub effect : (i : ℕ) → i < count → (operator_at operators i).effect < length masks
  pub applies :
      (i : ℕ)
      → i < count
      → get_or values (operator_at operators i).precondition 0 ≡ bit (applicable t (state_of (length t.initial) state) i)
  pub inside : (i : ℕ) → i < count → next_code state (get_or masks (operator_at operators i).effect 0) < n
  pub leads :
      (i : ℕ)
      → i < count
      → state_of (length t.initial) (next_code state (get_or masks (operator_at operators i).effect 0))
      ≡ next t (state_of (length t.initial) state) i
  pub p : List ℕ
  pub c : ℕ
  pub costs : cost ≡ c + 1
  pub size : steps ≡ length p

-- k operators have been stepped
module _ {n : ℕ} {operators : List ℕ} {count state cost steps : ℕ} {values masks : List ℕ} (h : Stage n operators count state cost steps values masks) where
  abbrev pub SteppedTo : List ℕ → ℕ → Type 0
  SteppedTo words k = Stepping h.t n words (state_of (length h.t.initial) state) k h.p h.c

  abbrev pub NotedTo : List ℕ → List (Option Bool) → ℕ → Type 0
  NotedTo words notes k = Noting h.t n words notes (state_of (length h.t.initial) state) k h.p h.c

-- the stage that the code has as one value
abbrev pub StageOf : ℕ → Origin → Type 0
StageOf n from = Stage n from.operators.now from.count from.state from.cost from.steps from.values.now from.masks.now

pub record Steppable (n : ℕ) (from : Origin) (words : List ℕ) (notes : List (Option Bool)) (k : ℕ) : Type 0 where
  pub roomy : Roomy n words
  pub stage : StageOf n from
  pub stepping : NotedTo stage words notes k

-- one operator more
pub record StepsOn (n : ℕ) (from : Origin) (notes : List (Option Bool)) (k : ℕ) (before after : List ℕ) (r : List (Option Bool)) : Type 0 where
  pub zeros : Zeros n before after
  pub told : (h : StageOf n from) → NotedTo h before notes k → NotedTo h after r (k + 1)

-- and all of them
pub record Expandable (n : ℕ) (from : Origin) (words : List ℕ) : Type 0 where
  pub roomy : Roomy n words
  pub stage : StageOf n from
  pub stepping : SteppedTo stage words 0

pub record Expands (n : ℕ) (from : Origin) (before after : List ℕ) : Type 0 where
  pub zeros : Zeros n before after
  pub told : (h : StageOf n from) → SteppedTo h before 0 → SteppedTo h after from.count

-- What is known where a state is taken next: all operators have been stepped from all states that were taken.
pub record Known (t : Task) (n : ℕ) (words : List ℕ) : Type 0 where
  pub status : List ℕ → Status
  pub last : List ℕ
  pub holds : Holds (length t.initial) n status words
  pub queue : Queue words n
  pub searching : Searching t status last (length t.operators)

-- The words at the begin: the initial state alone is queued.
pub record Begun (n start : ℕ) (words : List ℕ) : Type 0 where
  pub queue : Queue words n
  pub cost : get_or words start 0 ≡ 1
  pub steps : (s : ℕ) → s < n → get_or words (n + s) 0 ≡ 0
  pub lasts : (s : ℕ) → s < n → get_or words (2 * n + s) 0 ≡ 0
  pub others : (s : ℕ) → s < n → (s ≡ start → ⊥) → get_or words s 0 ≡ 4294967295

pub record Emptied (n : ℕ) (words : List ℕ) : Type 0 where
  pub costs : (s : ℕ) → s < n → get_or words s 0 ≡ 4294967295
  pub steps : (s : ℕ) → s < n → get_or words (n + s) 0 ≡ 0
  pub lasts : (s : ℕ) → s < n → get_or words (2 * n + s) 0 ≡ 0

-- the test of the goal in the state of a code: what it asks, what it tells, and the values of all formulas
pub record GoalReady (l : Lent) (state scratch : List ℕ) : Type 0 where
  pub few : l.head.variables ≤ 10
  pub size : length state ≡ l.head.variables
  pub there : 3 * l.head.formulas ≤ length l.formulas
  pub rule : (i : ℕ) → i < l.head.formulas → FormulaKept l.head.variables i (row_at l.formulas i)
  pub goal : l.head.goal < l.head.formulas
  pub room : l.head.formulas ≤ length scratch

pub record GoalTold (l : Lent) (s : ℕ) (scratch : List ℕ) (r : Bool) : Type 0 where
  pub told : r ≡ holds (state_of l.head.variables s) (formula_of (upto l.head.formulas (row_at l.formulas)) l.head.goal)
  pub values : Values (state_of l.head.variables s) (upto l.head.formulas (row_at l.formulas)) l.head.formulas scratch

-- a state is taken from the queue
pub record TakenNow (n s : ℕ) (before after : List ℕ) : Type 0 where
  pub queue : Queue after n
  pub word : get_or after s 0 ≡ 0
  pub costs : (x : ℕ) → x < n → (x ≡ s → ⊥) → get_or after x 0 ≡ get_or before x 0
  pub steps : (x : ℕ) → x < n → get_or after (n + x) 0 ≡ get_or before (n + x) 0
  pub lasts : (x : ℕ) → x < n → get_or after (2 * n + x) 0 ≡ get_or before (2 * n + x) 0

-- The first state of the queue is visited.
pub record Visitable (l : Lent) (n s : ℕ) (words : List ℕ) : Type 0 where
  pub t : Task
  pub tables : TaskIn t l
  pub ground : Ground t n
  pub known : Known t n words
  pub first : s ≡ winner words n 1
  pub waiting : is_queued (get_or words s 0) ≡ true

-- it is a goal state and stays where it is; or it is taken, and no other comes back into the queue
pub data Visited {l : Lent} {n s : ℕ} {before : List ℕ} (v : Visitable l n s before) (after : List ℕ) : Bool → Type 0 where
  at_goal : goal_holds v.t (state_of (length v.t.initial) s) ≡ true → after ≡ before → Visited v after true
  passed : Known v.t n after → Visited v after false

pub record Visits (l : Lent) (n s : ℕ) (before after : List ℕ) (r : Bool) : Type 0 where
  pub zeros : Zeros n before after
  pub gone : r ≡ false → get_or after s 0 ≡ 0
  pub told : (v : Visitable l n s before) → Visited v after r

-- The search: from the state of code start.
pub record Searchable (l : Lent) (n start : ℕ) : Type 0 where
  pub t : Task
  pub tables : TaskIn t l
  pub ground : Ground t n
  pub there : start < n
  pub initial : t.initial ≡ state_of l.head.variables start

-- the state that is taken next, if one is queued
abbrev pub Next : List ℕ → ℕ → Option ℕ → Type 0
Next words n (Some s) = (s ≡ winner words n 1) × (is_queued (get_or words s 0) ≡ true)
Next words n None = is_queued (get_or words (winner words n 1) 0) ≡ false

-- the first goal state of the queue, or none
pub record FirstEnd (t : Task) (n : ℕ) (words : List ℕ) (r : ℕ) : Type 0 where
  pub below : r < n
  pub known : Known t n words
  pub first : r ≡ winner words n 1
  pub waiting : is_queued (get_or words r 0) ≡ true
  pub goal : goal_holds t (state_of (length t.initial) r) ≡ true

abbrev pub SearchEnd : Task → ℕ → List ℕ → Option ℕ → Type 0
SearchEnd t n words (Some r) = FirstEnd t n words r
SearchEnd t n words None = cheapest t ≡ no_plan

pub record Searches (l : Lent) (n start : ℕ) (words : List ℕ) (r : Option ℕ) : Type 0 where
  pub told : (v : Searchable l n start) → SearchEnd v.t n words r

-- A queued goal state of the least key.
pub record EndReady (l : Lent) (n end : ℕ) (words : List ℕ) : Type 0 where
  pub t : Task
  pub variables : length t.initial ≡ l.head.variables
  pub formulas : t.formulas ≡ upto l.head.formulas (row_at l.formulas)
  pub goal : t.goal ≡ l.head.goal
  pub ground : Ground t n
  pub status : List ℕ → Status
  pub last : List ℕ
  pub holds : Holds (length t.initial) n status words
  pub searching : Searching t status last (length t.operators)
  pub there : end < n
  pub p : List ℕ
  pub c : ℕ
  pub is : status (state_of (length t.initial) end) ≡ queued p c
  pub ends : goal_holds t (state_of (length t.initial) end) ≡ true
  pub least : LeastKey (length t.initial) status p c

-- whether state s is a better end
pub data Rivals {l : Lent} {n end : ℕ} {words : List ℕ} (v : EndReady l n end words) (s : ℕ) : Bool → Type 0 where
  takes_over :
      (r : List ℕ)
      → v.status (state_of (length v.t.initial) s) ≡ queued r v.c
      → length r ≡ length v.p
      → goal_holds v.t (state_of (length v.t.initial) s) ≡ true
      → FirstByNumbers r v.p
      → Rivals v s true
  gives_way :
      ((r : List ℕ) (e : ℕ)
      → v.status (state_of (length v.t.initial) s) ≡ queued r e
      → goal_holds v.t (state_of (length v.t.initial) s) ≡ true
      → NoLater v.c v.p e r)
      → Rivals v s false

pub record Replaces (l : Lent) (n end s : ℕ) (words : List ℕ) (r : Bool) : Type 0 where
  pub told : (v : EndReady l n end words) → Rivals v s r

-- The best end: its list is the cheapest plan.
pub record EndFound (t : Task) (n end : ℕ) (words : List ℕ) : Type 0 where
  pub p : List ℕ
  pub c : ℕ
  pub status : List ℕ → Status
  pub holds : Holds (length t.initial) n status words
  pub is : status (state_of (length t.initial) end) ≡ queued p c
  pub best : cheapest t ≡ plan_of p c

pub record FindsEnd (l : Lent) (n first : ℕ) (words : List ℕ) (r : ℕ) : Type 0 where
  pub there : r < n
  pub told : (v : EndReady l n first words) → EndFound v.t n r words

-- The list of a state is written.
pub record Writable (n : ℕ) (words : List ℕ) (state steps : ℕ) : Type 0 where
  pub v : ℕ
  pub status : List ℕ → Status
  pub holds : Holds v n status words
  pub there : state < n
  pub p : List ℕ
  pub size : length p ≡ steps
  pub ends : Ends v n status p (get_or words (2 * n + state) 0)

pub record Writes (n : ℕ) (words : List ℕ) (state steps : ℕ) (before after : List ℕ) : Type 0 where
  pub front : (h : Writable n words state steps) (i : ℕ) → i < steps → get_or after i 0 ≡ get_or h.p i 0
  pub behind : (i : ℕ) → steps ≤ i → get_or after i 0 ≡ get_or before i 0

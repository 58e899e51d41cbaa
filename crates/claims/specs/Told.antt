-- What a row on request, a step and a run tell, in the scope's own words: said of words, rows, formulas and lists, and through no other definition
-- of a charge, a stop, a plan or a goal.
use Rattle.std.specs.Prelude.{ℕ, ◌+◌, ◌*◌, ◌≤◌, ◌<◌, ◌≡◌, Bool, true, false, ◌⊎◌, List, [], ◌∷◌, ◌++◌, length, get_or}
use Rattle.task.specs.Table.{Task}
use Rattle.task.specs.Rules.{no_operator}
use Rattle.task.specs.Semantics.{Effect, sets, clears, holds, effcond}
use Rattle.task.specs.Tree.{formula_of, effect_of}
use Rattle.task.specs.Run.{ended, charge_of, plain_run}
use Rattle.stepper.specs.Stepped.{Stepped}
use Rattle.plan.specs.Outcome.{Stopped, Ran}

-- "A row is three words", an operator's four (02, K2): row i of a table of words, so wide.
pub record IsRow (width : ℕ) (words : List ℕ) (i : ℕ) (part : List ℕ) : Type 0 where
  pub size : length part ≡ width
  pub word : (k : ℕ) → k < width → get_or part k 0 ≡ get_or words (width * i + k) 0

-- "The cost counts every step done": the sum of the charges of the operators' rows (02, K2: "the charge is meant").
unfoldable pub costs : Task → List ℕ → ℕ
costs t [] = 0
costs t (o ∷ rest) = charge_of (get_or t.operators o no_operator) + costs t rest

-- operator o's precondition holds in state s, and the goal does
abbrev pub permitted : Task → List ℕ → ℕ → Bool
permitted t s o = holds s (formula_of t.formulas (get_or t.operators o no_operator).precondition)

abbrev pub goal_true : Task → List ℕ → Bool
goal_true t s = holds s (formula_of t.formulas t.goal)

-- "All variables change at once": one becomes 1 if effcond(set) holds in the state before, else 0 if effcond(clear) holds, else keeps its value.
pub record Changed (before : List ℕ) (e : Effect) (after : List ℕ) : Type 0 where
  pub same_length : length after ≡ length before
  pub set : (v : ℕ) → v < length before → effcond before (sets v) e ≡ true → get_or after v 0 ≡ 1
  pub cleared :
      (v : ℕ)
      → v < length before
      → effcond before (sets v) e ≡ false
      → effcond before (clears v) e ≡ true
      → get_or after v 0 ≡ 0
  pub kept :
      (v : ℕ)
      → v < length before
      → effcond before (sets v) e ≡ false
      → effcond before (clears v) e ≡ false
      → get_or after v 0 ≡ get_or before v 0

-- .. by operator o
abbrev pub ChangedBy : Task → ℕ → (before after : List ℕ) → Type 0
ChangedBy t o before after =
    Changed before (effect_of t.formulas t.effects (get_or t.operators o no_operator).effect) after

-- A step that is done: what the call tells, and the state that it leaves.
pub record StepTold (t : Task) (s : List ℕ) (o : ℕ) (w : Stepped) : Type 0 where
  pub steps : w.answer.steps ≡ 1
  pub cost : w.answer.cost ≡ costs t (o ∷ [])
  pub goal : w.answer.goal ≡ goal_true t w.state
  pub state : ChangedBy t o s w.state

-- Number o is done behind the numbers in front: they are not stopped, it is below O, and its precondition holds in the state that they leave.
pub record Done (t : Task) (s front : List ℕ) (o : ℕ) : Type 0 where
  pub unstopped : (plain_run t s front).stop ≡ ended
  pub below : o < length t.operators
  pub precondition : permitted t (plain_run t s front).state o ≡ true

-- A run stopped with n: the numbers in front are done, and the next one is not below O, 17, or its precondition is false there, 18. State, steps
-- and cost stay, and the rest is not read.
pub record StoppedAt (t : Task) (s numbers : List ℕ) (n : ℕ) : Type 0 where
  pub front : List ℕ
  pub next : ℕ
  pub rest : List ℕ
  pub split : numbers ≡ front ++ (next ∷ rest)
  pub unstopped : (plain_run t s front).stop ≡ ended
  pub state : (plain_run t s numbers).state ≡ (plain_run t s front).state
  pub steps : (plain_run t s numbers).steps ≡ (plain_run t s front).steps
  pub cost : (plain_run t s numbers).cost ≡ (plain_run t s front).cost
  pub counted : (plain_run t s numbers).steps ≡ length front
  pub reason :
      ((n ≡ 17) × (length t.operators ≤ next))
      ⊎ ((n ≡ 18) × (next < length t.operators) × (permitted t (plain_run t s numbers).state next ≡ false))

-- The same of the call: its end tells the number, and as the step how many numbers stand in front.
pub record StopTold (t : Task) (s numbers : List ℕ) (n : ℕ) (w : Ran) : Type 0 where
  pub at : StoppedAt t s numbers n
  pub end : w.answer.end ≡ Stopped n (length at.front)
  pub steps : w.answer.steps ≡ length at.front
  pub state : w.state ≡ (plain_run t s at.front).state

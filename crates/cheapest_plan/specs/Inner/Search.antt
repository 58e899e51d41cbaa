-- What a search by 02's order knows of each state while it goes on, whatever holds it: not reached; queued with the best list that was found so far; or taken,
-- with the best list of all. A state is a list of V bits.
use Rattle.std.specs.Prelude.{ℕ, ◌+◌, ◌<◌, ◌≡◌, true, false, List, [], ◌∷◌, ◌++◌, length}
use Rattle.task.specs.Table.{Task}
use Rattle.task.specs.Run.{goal_holds, applicable, charge}
use Rattle.cheapest_plan.specs.Order.{Before}
use Rattle.cheapest_plan.specs.Inner.Leads.{next, Leads}
use Rattle.cheapest_plan.specs.Inner.States.{Bits}

-- no later than: the same, or before
pub data NoLater (c : ℕ) (p : List ℕ) (d : ℕ) (q : List ℕ) : Type 0 where
  equal : c ≡ d → p ≡ q → NoLater c p d q
  before : Before c p d q → NoLater c p d q

-- less by cost and steps alone: what a queue goes by
pub data KeyLess (c : ℕ) (p : List ℕ) (d : ℕ) (q : List ℕ) : Type 0 where
  less_cost : c < d → KeyLess c p d q
  less_steps : c ≡ d → length p < length q → KeyLess c p d q

pub data Status : Type 0 where
  unreached : Status
  queued : (numbers : List ℕ) → (cost : ℕ) → Status
  taken : (numbers : List ℕ) → (cost : ℕ) → Status

-- the list that a state has, queued or taken
pub data Has (now : Status) (p : List ℕ) (c : ℕ) : Type 0 where
  waits : now ≡ queued p c → Has now p c
  stands : now ≡ taken p c → Has now p c

-- it has one that is no later than list p at cost c
pub record Reached (now : Status) (c : ℕ) (p : List ℕ) : Type 0 where
  pub numbers : List ℕ
  pub cost : ℕ
  pub has : Has now numbers cost
  pub no_later : NoLater cost numbers c p

-- What holds all along. From state `last`, which was taken last, k operators have been stepped; from all others that are taken, all.
pub record Searching (t : Task) (status : List ℕ → Status) (last : List ℕ) (k : ℕ) : Type 0 where
  -- a state's list leads to it
  pub leads :
      (s : List ℕ)
      → Bits (length t.initial) s
      → (p : List ℕ) (c : ℕ)
      → Has (status s) p c
      → Leads t t.initial p s c
  -- a state that is taken has the best list of all, and is no goal state
  pub best :
      (s : List ℕ)
      → Bits (length t.initial) s
      → (p : List ℕ) (c : ℕ)
      → status s ≡ taken p c
      → (q : List ℕ) (d : ℕ)
      → Leads t t.initial q s d
      → NoLater c p d q
  pub no_goal :
      (s : List ℕ) → Bits (length t.initial) s → (p : List ℕ) (c : ℕ) → status s ≡ taken p c → goal_holds t s ≡ false
  -- the initial state is reached by the empty list, and what an operator leads to from a state that is taken by that state's list and the operator
  pub start : Reached (status t.initial) 0 []
  pub follows :
      (s : List ℕ)
      → Bits (length t.initial) s
      → (p : List ℕ) (c : ℕ)
      → status s ≡ taken p c
      → (o : ℕ)
      → applicable t s o ≡ true
      → (s ≡ last → o < k)
      → Reached (status (next t s o)) (c + charge t s o) (p ++ (o ∷ []))

-- one state's status is changed
pub record Changed (v : ℕ) (status after : List ℕ → Status) (s : List ℕ) (now : Status) : Type 0 where
  pub here : after s ≡ now
  pub elsewhere : (x : List ℕ) → Bits v x → (x ≡ s → ⊥) → after x ≡ status x

-- no queued state has a lesser key
pub record LeastKey (v : ℕ) (status : List ℕ → Status) (p : List ℕ) (c : ℕ) : Type 0 where
  pub none_less : (y : List ℕ) → Bits v y → (r : List ℕ) (e : ℕ) → status y ≡ queued r e → KeyLess e r c p → ⊥

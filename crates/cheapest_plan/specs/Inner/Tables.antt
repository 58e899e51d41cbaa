-- What the words of a search say of each state, and what the functions on them ask and leave. Only the contracts of inner functions cite this file.
use Rattle.std.specs.Prelude.{ℕ, ◌+◌, ◌*◌, ◌^◌, ◌≤◌, ◌<◌, ◌≡◌, Bool, true, false, Option, Some, None, List, [], ◌∷◌, ◌++◌, length, get_or}
use Rattle.task.specs.Table.{Task}
use Rattle.task.specs.Rules.{Checked}
use Rattle.task.specs.Run.{applicable, charge}
use Rattle.state_queue.specs.Inner.Queue.{key, queue_cost, Roomy, Queue}
use Rattle.cheapest_plan.specs.Order.{FirstByNumbers}
use Rattle.cheapest_plan.specs.Inner.Leads.{next}
use Rattle.cheapest_plan.specs.Inner.States.{state_of}
use Rattle.cheapest_plan.specs.Inner.Search.{NoLater, Status, unreached, queued, taken, Searching}

-- The last step of list p: 0 if p is empty; else its number, and before it the list of a state that was taken.
pub data Ends (v n : ℕ) (status : List ℕ → Status) (p : List ℕ) (step : ℕ) : Type 0 where
  at_start : p ≡ [] → step ≡ 0 → Ends v n status p step
  by_step :
      (parent o : ℕ) (front : List ℕ) (c : ℕ)
      → parent < n
      → o < 256
      → status (state_of v parent) ≡ taken front c
      → step ≡ 256 * (parent + 1) + o
      → p ≡ front ++ (o ∷ [])
      → Ends v n status p step

-- most that a queued state costs, and most steps of its list
abbrev pub most_cost : ℕ
most_cost = 134215680

-- The words of state s: its cost and one, 0 if it was taken, the largest if it was not reached; the steps of its list; and the last of them.
pub data Says (v n : ℕ) (status : List ℕ → Status) (words : List ℕ) (s : ℕ) : Status → Type 0 where
  says_unreached : get_or words s 0 ≡ 4294967295 → Says v n status words s unreached
  says_queued :
      {p : List ℕ} {c : ℕ}
      → get_or words s 0 ≡ c + 1
      → get_or words (n + s) 0 ≡ length p
      → Ends v n status p (get_or words (2 * n + s) 0)
      → c ≤ most_cost
      → length p ≤ 1024
      → Says v n status words s (queued p c)
  says_taken :
      {p : List ℕ} {c : ℕ}
      → get_or words s 0 ≡ 0
      → get_or words (n + s) 0 ≡ length p
      → Ends v n status p (get_or words (2 * n + s) 0)
      → Says v n status words s (taken p c)

pub record Holds (v n : ℕ) (status : List ℕ → Status) (words : List ℕ) : Type 0 where
  pub at : (s : ℕ) → s < n → Says v n status words s (status (state_of v s))

-- Two lists of one length by their last steps. States that were taken have lists of their own.
pub record Comparable (n : ℕ) (words : List ℕ) (x y : ℕ) : Type 0 where
  pub v : ℕ
  pub status : List ℕ → Status
  pub holds : Holds v n status words
  pub alone :
      (a b : ℕ) (p : List ℕ) (c d : ℕ)
      → a < n
      → b < n
      → status (state_of v a) ≡ taken p c
      → status (state_of v b) ≡ taken p d
      → a ≡ b
  pub first : List ℕ
  pub second : List ℕ
  pub first_ends : Ends v n status first x
  pub second_ends : Ends v n status second y
  pub alike : length first ≡ length second

-- whether list p comes first by its numbers
pub data Verdict (p q : List ℕ) : Bool → Type 0 where
  comes_first : FirstByNumbers p q → Verdict p q true
  not_first : (FirstByNumbers p q → ⊥) → Verdict p q false

pub record Compares (n : ℕ) (words : List ℕ) (x y : ℕ) (r : Bool) : Type 0 where
  pub told : (h : Comparable n words x y) → Verdict h.first h.second r

-- A task that the words have room for: n states, and charges that are small.
pub record Ground (t : Task) (n : ℕ) : Type 0 where
  pub passes : Checked t
  pub states : n ≡ 2 ^ length t.initial
  pub few : n ≤ 1024
  pub cheap : (s : List ℕ) (o : ℕ) → charge t s o ≤ 131070

-- What is known where k operators have been stepped from state s, which was taken with list p at cost c.
pub record Stepping (t : Task) (n : ℕ) (words : List ℕ) (s : List ℕ) (k : ℕ) (p : List ℕ) (c : ℕ) : Type 0 where
  pub status : List ℕ → Status
  pub holds : Holds (length t.initial) n status words
  pub queue : Queue words n
  pub searching : Searching t status s k
  pub is_taken : status s ≡ taken p c
  -- a list that goes on from p ends with an operator that was stepped
  pub fresh : (x o e : ℕ) → x < n → status (state_of (length t.initial) x) ≡ queued (p ++ (o ∷ [])) e → o < k

-- What is kept of the comparisons of list p with those of states that were taken, for each of these where there was one: whether p comes first by its
-- numbers; of the state of p itself that it does not.
pub record Noted (v n : ℕ) (status : List ℕ → Status) (p : List ℕ) (notes : List (Option Bool)) : Type 0 where
  pub room : n ≤ length notes
  pub told :
      (b : ℕ) (q : List ℕ) (d : ℕ) (r : Bool)
      → b < n
      → get_or notes b None ≡ Some r
      → status (state_of v b) ≡ taken q d
      → length p ≡ length q
      → Verdict p q r

-- Two states that were taken, of lists of one length, and what was kept of earlier comparisons of the first.
pub record Pairs (n : ℕ) (words : List ℕ) (a b : ℕ) (notes : List (Option Bool)) : Type 0 where
  pub v : ℕ
  pub status : List ℕ → Status
  pub holds : Holds v n status words
  pub alone :
      (a b : ℕ) (p : List ℕ) (c d : ℕ)
      → a < n
      → b < n
      → status (state_of v a) ≡ taken p c
      → status (state_of v b) ≡ taken p d
      → a ≡ b
  pub a_there : a < n
  pub b_there : b < n
  pub p : List ℕ
  pub c : ℕ
  pub q : List ℕ
  pub d : ℕ
  pub a_is : status (state_of v a) ≡ taken p c
  pub b_is : status (state_of v b) ≡ taken q d
  pub alike : length p ≡ length q
  pub noted : Noted v n status p notes

pub record Notes (n : ℕ) (words : List ℕ) (a b : ℕ) (before after : List (Option Bool)) (r : Bool) : Type 0 where
  pub told : (h : Pairs n words a b before) → Verdict h.p h.q r
  pub noted : (h : Pairs n words a b before) → Noted h.v n h.status h.p after

-- Operator k is applicable in the state of code `from`, and leads from there to the state of code `to`; cost counts one more.
pub record Relaxable (n : ℕ) (words : List ℕ) (to cost steps step : ℕ) (notes : List (Option Bool)) : Type 0 where
  pub t : Task
  pub ground : Ground t n
  pub from : ℕ
  pub from_state : from < n
  pub k : ℕ
  pub number : k < 256
  pub p : List ℕ
  pub c : ℕ
  pub stepping : Stepping t n words (state_of (length t.initial) from) k p c
  pub noted : Noted (length t.initial) n stepping.status p notes
  pub applies : applicable t (state_of (length t.initial) from) k ≡ true
  pub there : to < n
  pub target : state_of (length t.initial) to ≡ next t (state_of (length t.initial) from) k
  pub costs : cost ≡ c + charge t (state_of (length t.initial) from) k + 1
  pub longer : steps ≡ length p + 1
  pub last : step ≡ 256 * (from + 1) + k

-- the state that the operator is stepped from, the one that it leads to, and the new list and its cost
module _ {n : ℕ} {words : List ℕ} {to cost steps step : ℕ} {notes : List (Option Bool)} (h : Relaxable n words to cost steps step notes) where
  abbrev pub left_state : List ℕ
  left_state = state_of (length h.t.initial) h.from

  abbrev pub new_state : List ℕ
  new_state = next h.t (state_of (length h.t.initial) h.from) h.k

  abbrev pub new_list : List ℕ
  new_list = h.p ++ (h.k ∷ [])

  abbrev pub new_cost : ℕ
  new_cost = h.c + charge h.t (state_of (length h.t.initial) h.from) h.k

  -- whether the list that stands at a state stays
  pub data Judged : Bool → Type 0 where
    old_stays : Searching h.t h.stepping.status left_state (h.k + 1) → Judged true
    new_comes :
        ((r : List ℕ) (e : ℕ) → h.stepping.status new_state ≡ taken r e → ⊥)
        → ((r : List ℕ) (e : ℕ) → h.stepping.status new_state ≡ queued r e → NoLater new_cost new_list e r)
        → queue_cost cost * 4294967296 + steps ≤ key words n to
        → Judged false

pub record Judges (n : ℕ) (words : List ℕ) (to cost steps step : ℕ) (notes after : List (Option Bool)) (r : Bool) : Type 0 where
  pub told : (h : Relaxable n words to cost steps step notes) → Judged h r
  pub noted : (h : Relaxable n words to cost steps step notes) → Noted (length h.t.initial) n h.stepping.status h.p after

-- A state comes into the queue, or comes earlier in it.
pub record MayQueue (n : ℕ) (words : List ℕ) (state cost steps : ℕ) : Type 0 where
  pub roomy : Roomy n words
  pub queue : Queue words n
  pub there : state < n
  pub sooner : queue_cost cost * 4294967296 + steps ≤ key words n state

-- the words of all other states are as they were
pub record Elsewhere (n state : ℕ) (before after : List ℕ) : Type 0 where
  pub costs : (s : ℕ) → s < n → (s ≡ state → ⊥) → get_or after s 0 ≡ get_or before s 0
  pub steps : (s : ℕ) → s < n → (s ≡ state → ⊥) → get_or after (n + s) 0 ≡ get_or before (n + s) 0
  pub lasts : (s : ℕ) → s < n → (s ≡ state → ⊥) → get_or after (2 * n + s) 0 ≡ get_or before (2 * n + s) 0

pub record QueuedNow (n state cost steps step : ℕ) (before after : List ℕ) : Type 0 where
  pub queue : Queue after n
  pub cost_now : get_or after state 0 ≡ cost
  pub steps_now : get_or after (n + state) 0 ≡ steps
  pub step_now : get_or after (2 * n + state) 0 ≡ step
  pub elsewhere : Elsewhere n state before after

-- a state that was taken stays so
pub record Zeros (n : ℕ) (before after : List ℕ) : Type 0 where
  pub stay : (s : ℕ) → s < n → get_or before s 0 ≡ 0 → get_or after s 0 ≡ 0

-- what is left: one operator more was stepped
pub record Noting (t : Task) (n : ℕ) (words : List ℕ) (notes : List (Option Bool)) (s : List ℕ) (k : ℕ) (p : List ℕ) (c : ℕ) : Type 0 where
  pub stepping : Stepping t n words s k p c
  pub noted : Noted (length t.initial) n stepping.status p notes

pub record Relaxes (n : ℕ) (to cost steps step : ℕ) (notes : List (Option Bool)) (before after : List ℕ) (r : List (Option Bool)) : Type 0 where
  pub zeros : Zeros n before after
  pub told :
      (h : Relaxable n before to cost steps step notes)
      → Noting h.t n after r (state_of (length h.t.initial) h.from) (h.k + 1) h.p h.c

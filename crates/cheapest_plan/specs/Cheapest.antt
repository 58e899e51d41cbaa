-- The cheapest plan (02, K1): "the plan of least cost from the initial state; among those the one with fewest steps; among those the first by
-- operator numbers, compared from the front". All lists that can matter stand in a row, and the first of least cost is taken.
use Rattle.std.specs.Prelude.{ℕ, zero, suc, ◌-◌, ◌^◌, Bool, true, cond, ◌&&◌, List, [], ◌∷◌, ◌++◌, map, length, leb}
use Rattle.task.specs.Table.{Task}
use Rattle.task.specs.Run.{Run, plain_run, is_plan}

-- each of the lists behind the number 0, then each behind 1, .. then each behind o - 1
unfoldable pub behind : (o : ℕ) → List (List ℕ) → List (List ℕ)
behind zero rests = []
behind (suc o) rests = behind o rests ++ map (λ (rest : List ℕ). o ∷ rest) rests

-- All lists of n numbers below o, the first by their numbers first. The first number decides before the others: with o 2 and n 2 they are
-- 0 0, 0 1, 1 0, 1 1, and a row in which the last number decides would have 1 0 before 0 1.
unfoldable pub lists_of : (o n : ℕ) → List (List ℕ)
lists_of o zero = [] ∷ []
lists_of o (suc n) = behind o (lists_of o n)

-- Those of no number, then of one, .. then of n: the shorter first. Ordered by their numbers alone, 0 0 would come before 1, though 1 has fewer steps.
unfoldable pub lists_upto : (o n : ℕ) → List (List ℕ)
lists_upto o zero = lists_of o zero
lists_upto o (suc n) = lists_upto o n ++ lists_of o (suc n)

-- a list of operator numbers and its cost; or that there is none
pub data Pick : Type 0 where
  no_plan : Pick
  plan_of : (numbers : List ℕ) → (cost : ℕ) → Pick

unfoldable pub no_dearer : ℕ → Pick → Bool
no_dearer cost no_plan = true
no_dearer cost (plan_of numbers other) = leb cost other

-- A list, unless it is no plan or a later one costs less. A later one that costs the same does not replace it: where operators 0 and 1 both reach
-- the goal at cost 0, the answer is 0.
unfoldable pub unless_later : (numbers : List ℕ) → Run → (later : Pick) → Pick
unless_later numbers r later = cond (is_plan r && no_dearer r.cost later) (plan_of numbers r.cost) later

-- the first plan of least cost among these lists
unfoldable pub first_cheapest : Task → List (List ℕ) → Pick
first_cheapest t [] = no_plan
first_cheapest t (numbers ∷ lists) =
    unless_later numbers (plain_run t t.initial numbers) (first_cheapest t lists)

-- No list of 2^V numbers or more needs to be looked at, since it comes to some state twice. One fewer would be too few: one variable that one
-- operator sets needs 1 step, and a counter of V variables that one operator counts up needs 2^V - 1.
abbrev pub most_steps : Task → ℕ
most_steps t = 2 ^ length t.initial - 1

-- The cheapest plan. That it is the least among lists of any length is no part of the definition but a theorem, `cheapest_is_least`.
unfoldable pub cheapest : Task → Pick
cheapest t = first_cheapest t (lists_upto (length t.operators) (most_steps t))

-- The theorems on the cheapest plan (02, K1), over lists of numbers of any length, of every task whose tables pass. Assumes nothing.
use Prim.Native.Nat.{ℕ, ◌≤◌, ◌<◌}
use native.Mathlib.Omega.{arith}
use native.Mathlib.Decide.{dec_lt}
use mathlib.Core.Bool.{true}
use mathlib.Core.Path.{◌≡◌, refl, sym, ap, ◌∙◌}
use mathlib.Core.Logic.{◌↔◌}
use mathlib.Core.List.{List}
use mathlib.Core.List.{Memᴰ as Among}
use lib.ListN.{length}
use Rattle.task.specs.Table.{Task}
use Rattle.task.specs.Rules.{Checked}
use Rattle.task.specs.Run.{goal_holds, plain_run, is_plan}
use Rattle.cheapest_plan.specs.Cheapest.{Pick, no_plan, plan_of, lists_upto, most_steps, cheapest}
use Rattle.cheapest_plan.specs.Order.{FirstByNumbers, cheaper, shorter, earlier, Plan, cost_of, Least}
use Rattle.cheapest_plan.specs.Inner.Leads.{Leads}
use Rattle.cheapest_plan.specs.Inner.States.{Bits}
use Rattle.cheapest_plan.specs.Inner.Search.{NoLater, equal, before}
use Rattle.cheapest_plan.proofs.Order.{no_later_transitive, no_later_not_before}
use Rattle.cheapest_plan.proofs.Lists.{upto_has, upto_length, ordered_upto}
use Rattle.cheapest_plan.proofs.Leads.{plan_reaches, reaches_plan, leads_below}
use Rattle.cheapest_plan.proofs.Picks.{Picks, finds_none, finds, picks}
use Rattle.cheapest_plan.proofs.Loops.{shorten}

-- the lists that the definition looks at
abbrev looked_at : Task → List (List ℕ)
looked_at t = lists_upto (length t.operators) (most_steps t)

-- a plan among them that is no later than a plan of any length
record Looked (t : Task) (q : List ℕ) : Type 0 where
  numbers : List ℕ
  among : Among numbers (looked_at t)
  plan : Plan t numbers
  no_later : NoLater (cost_of t numbers) numbers (cost_of t q) q

module _ (t : Task) (passes : Checked t) where
  looked : (q : List ℕ) → Plan t q → Looked t q
  looked q plan =
      let r = plan_reaches t q plan in
      let bits : Bits (length t.initial) t.initial = record { size = refl; bits = passes.initial_bits } in
      let h = shorten bits r.leads in
      let p = reaches_plan t h.numbers h.leads r.goal in
      record {
        numbers = h.numbers;
        among = upto_has (most_steps t) (leads_below h.leads) h.steps;
        plan = p.0;
        no_later = rw p.1 h.no_later;
      }

  -- what the answer says of the plans of any length
  data Answers : Pick → Type 0 where
    none : ((q : List ℕ) → Plan t q → ⊥) → Answers no_plan
    one :
        {p : List ℕ} {c : ℕ}
        → Plan t p
        → c ≡ cost_of t p
        → length p ≤ most_steps t
        → ((q : List ℕ) → Plan t q → NoLater c p (cost_of t q) q)
        → Answers (plan_of p c)

  answers : Answers (cheapest t)
  unfolding cheapest
  answers = go (picks t (ordered_upto (length t.operators) (most_steps t)))
    where
      go : {a : Pick} → Picks t (looked_at t) a → Answers a
      go (finds_none nothing) = none (λ q plan. let l = looked q plan in nothing l.numbers l.among l.plan)
      go (finds f) =
          one f.plan f.cost (upto_length (length t.operators) (most_steps t) f.among)
          (λ q plan. let l = looked q plan in
          no_later_transitive (f.least l.numbers l.among l.plan) l.no_later)

  -- the answer where it is a plan
  module _ {p : List ℕ} {c : ℕ} (e : cheapest t ≡ plan_of p c) where
    pub cheapest_is_plan : Plan t p × (c ≡ cost_of t p)
    cheapest_is_plan = go (rw e at answers)
      where
        go : Answers (plan_of p c) → Plan t p × (c ≡ cost_of t p)
        go (one plan cost short least) = (plan, cost)

    -- it has at most 2^V - 1 steps
    pub plan_is_short : length p ≤ most_steps t
    plan_is_short = go (rw e at answers)
      where
        go : Answers (plan_of p c) → length p ≤ most_steps t
        go (one plan cost short least) = short

    no_later : (q : List ℕ) → Plan t q → NoLater c p (cost_of t q) q
    no_later = go (rw e at answers)
      where
        go : Answers (plan_of p c) → (q : List ℕ) → Plan t q → NoLater c p (cost_of t q) q
        go (one plan cost short least) = least

    module _ (q : List ℕ) (other : Plan t q) where
      -- no plan costs less
      pub none-cheaper : c ≤ cost_of t q
      none-cheaper = go (dec_lt (cost_of t q) c)
        where
          go : Dec (cost_of t q < c) → c ≤ cost_of t q
          go (yes l) = absurd (no_later_not_before (no_later q other) (cheaper l))
          go (no l) = omega arith

      -- of those that cost the same none has fewer steps
      pub none-shorter : cost_of t q ≡ c → length p ≤ length q
      none-shorter same = go (dec_lt (length q) (length p))
        where
          go : Dec (length q < length p) → length p ≤ length q
          go (yes l) = absurd (no_later_not_before (no_later q other) (shorter same l))
          go (no l) = omega arith

      -- of those that cost the same and have as many steps none comes first by its numbers
      pub none_before : cost_of t q ≡ c → FirstByNumbers q p → ⊥
      none_before same f = no_later_not_before (no_later q other) (earlier same f)

    pub cheapest_is_least : Least t p
    cheapest_is_least =
        record {
          plan = cheapest_is_plan.0;
          none_before = λ q other b. no_later_not_before (rw cheapest_is_plan.1 at (no_later q other)) b;
        }

  -- it is none exactly if no list of numbers is a plan
  pub no_plan_exactly_if : cheapest t ≡ no_plan ↔ ((q : List ℕ) → Plan t q → ⊥)
  no_plan_exactly_if = (λ e. go (rw e at answers), λ nothing. back nothing refl answers)
    where
      go : Answers no_plan → (q : List ℕ) → Plan t q → ⊥
      go (none nothing) = nothing

      back : ((q : List ℕ) → Plan t q → ⊥) → {a : Pick} → cheapest t ≡ a → Answers a → cheapest t ≡ no_plan
      back nothing e (none x) = e
      back nothing e (one {p = p} plan cost short least) = absurd (nothing p plan)

  -- Whatever plan no plan comes before is the answer.
  pub least_is_cheapest : {p : List ℕ} → Least t p → cheapest t ≡ plan_of p (cost_of t p)
  least_is_cheapest {p} l = go refl answers
    where
      same : {r : List ℕ} {c : ℕ} → Plan t r → c ≡ cost_of t r → NoLater c r (cost_of t p) p → plan_of r c ≡ plan_of p (cost_of t p)
      same plan cost (equal e f) = rw (e, f)
      same {r} plan cost (before b) = absurd (l.none_before r plan (rw cost at b))

      go : {a : Pick} → cheapest t ≡ a → Answers a → cheapest t ≡ plan_of p (cost_of t p)
      go e (none nothing) = absurd (nothing p l.plan)
      go e (one plan cost short least) = e ∙ same plan cost (least p l.plan)

  -- The same of where lists lead, as a search knows it: it found a list to the goal that is no later than each; or no list leads there.
  pub found_is_cheapest :
      {p at : List ℕ} {c : ℕ}
      → Leads t t.initial p at c
      → goal_holds t at ≡ true
      → ((q to : List ℕ) (d : ℕ) → Leads t t.initial q to d → goal_holds t to ≡ true → NoLater c p d q)
      → cheapest t ≡ plan_of p c
  found_is_cheapest {p} {at} {c} l g least =
      let w = reaches_plan t p l g in
      let is-least : Least t p =
      record {
        plan = w.0;
        none_before =
            λ q plan b. let r = plan_reaches t q plan in
            no_later_not_before (rw (← w.1) at (least q r.at (cost_of t q) r.leads r.goal)) b;
      } in
      rw w.1 at (least_is_cheapest is-least)

  pub none_is_cheapest :
      ((q to : List ℕ) (d : ℕ) → Leads t t.initial q to d → goal_holds t to ≡ true → ⊥) → cheapest t ≡ no_plan
  none_is_cheapest nothing =
      no_plan_exactly_if.1
      (λ q plan. let r = plan_reaches t q plan in nothing q r.at (cost_of t q) r.leads r.goal)

-- two tasks with the same plans, each of the same cost in both, have the same cheapest plan
pub same_cheapest :
    (t u : Task)
    → Checked t
    → Checked u
    → ((numbers : List ℕ)
    → let r = plain_run t t.initial numbers in
    let r' = plain_run u u.initial numbers in
    (is_plan r ≡ is_plan r') × (r.cost ≡ r'.cost))
    → cheapest t ≡ cheapest u
same_cheapest t u x y same = go (cheapest t) refl
  where
    go : (a : Pick) → cheapest t ≡ a → cheapest t ≡ cheapest u
    go no_plan e =
        let nothing = (no_plan_exactly_if t x).0 e in
        e ∙ sym ((no_plan_exactly_if u y).1 (λ q plan. nothing q ((same q).0 ∙ plan)))
    go (plan_of p c) e =
        let least = cheapest_is_least t x e in
        let other : Least u p =
        record {
          plan = sym (same p).0 ∙ least.plan;
          none_before = λ q plan b. least.none_before q ((same q).0 ∙ plan) (rw ((same q).1, (same p).1) b);
        } in
        e
        ∙ ap (plan_of p) ((cheapest_is_plan t x e).1 ∙ (same p).1)
        ∙ sym (least_is_cheapest u y other)

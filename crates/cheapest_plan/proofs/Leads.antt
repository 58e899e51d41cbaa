-- Laws of where a list of numbers leads: it is what a run answers, it goes by parts from the front and from the back, and a list leads to one state
-- at one cost. Assumes nothing.
use Prim.Native.Nat.{ℕ, ◌+◌, ◌≤◌, ◌<◌}
use native.Mathlib.Omega.{arith}
use mathlib.Core.Path.{◌≡◌, refl, sym, ap, ◌∙◌}
use mathlib.Core.Bool.{Bool, true, false, cond}
use mathlib.Core.List.{List, [], ◌∷◌, ◌++◌}
use lib.ListN.{length}
use borrow.Author.Tests.{lt-ltb, ltb-true}
use lib.Dec.{ltb}
use Rattle.task.specs.Table.{Task}
use Rattle.task.specs.Semantics.{sets, clears, effcond, value_after, apply}
use Rattle.task.specs.Run.{goal_holds, applicable, charge, effect_of_operator, operator_of, Progress, after_step, ended, Run, answer, run_on, plain_run, unstopped, is_plan}
use Rattle.task.proofs.Bounded.{and_left, and_right, getD_upto}
use Rattle.task.proofs.Runs.{permits, Does, none, more, start, ended_run, goal_told, length_after, plan_exactly_if}
use Rattle.cheapest_plan.specs.Order.{Plan, cost_of}
use Rattle.cheapest_plan.specs.Inner.Leads.{next, Leads, stays, goes, Below, nothing, number}
use Rattle.cheapest_plan.specs.Inner.States.{Bits}

same_answer :
    (t : Task) {s s' : List ℕ} {n n' c c' : ℕ}
    → s ≡ s'
    → n ≡ n'
    → c ≡ c'
    → answer t (record { state = s; steps = n; cost = c }) ended ≡ answer t (record { state = s'; steps = n'; cost = c' }) ended
same_answer t e f g = rw (e, f, g)

pub below_operators : (t : Task) (s : List ℕ) (o : ℕ) → applicable t s o ≡ true → o < length t.operators
unfolding applicable operator_of
below_operators t s o a = ltb-true o (length t.operators) (and_left (ltb o (length t.operators)) (permits t s o) a)

pub permitted : (t : Task) (s : List ℕ) (o : ℕ) → applicable t s o ≡ true → permits t s o ≡ true
unfolding applicable operator_of
permitted t s o a = and_right (ltb o (length t.operators)) (permits t s o) a

pub is_applicable : (t : Task) (s : List ℕ) (o : ℕ) → o < length t.operators → permits t s o ≡ true → applicable t s o ≡ true
unfolding applicable operator_of
is_applicable t s o below e = rw (lt-ltb o (length t.operators) below) e

-- what a run answers for a list that leads somewhere
pub leads_run :
    {t : Task} {s numbers to : List ℕ} {c : ℕ}
    → Leads t s numbers to c
    → (p : Progress)
    → p.state ≡ s
    → run_on t p numbers ≡ answer t (record { state = to; steps = p.steps + length numbers; cost = p.cost + c }) ended
unfolding run_on after_step next
leads_run {t} (stays e z) p at = same_answer t (at ∙ e) (omega arith) (omega arith)
leads_run {t} {c = c} (goes {s = s} {to = to} {numbers = rest} {o = o} {d = d} a l z) p at =
    let now : applicable t p.state o ≡ true = rw at a in
    let below = lt-ltb o (length t.operators) (below_operators t p.state o now) in
    let charged : charge t p.state o ≡ charge t s o = ap (λ (x : List ℕ). charge t x o) at in
    rw (below, now)
    (leads_run l (after_step t p o) (ap (λ (x : List ℕ). next t x o) at)
    ∙ same_answer t refl (omega arith) (omega arith))

-- and that a run which is not stopped leads where it says
pub record LeadsOn (t : Task) (p : Progress) (numbers : List ℕ) (q : Progress) : Type 0 where
  pub charged : ℕ
  pub leads : Leads t p.state numbers q.state charged
  pub cost : p.cost + charged ≡ q.cost

does_leads : {t : Task} {p q : Progress} {numbers : List ℕ} → Does t p numbers q → LeadsOn t p numbers q
unfolding after_step next
does_leads none = record { charged = 0; leads = stays refl refl; cost = omega arith }
does_leads {t} {p} (more {o = o} below e d) =
    let l = does_leads d in
    let sum = l.cost in
    record {
      charged = charge t p.state o + l.charged;
      leads = goes (is_applicable t p.state o below e) l.leads refl;
      cost = omega arith;
    }

pub run_leads :
    (t : Task) (s numbers : List ℕ)
    → (plain_run t s numbers).stop ≡ ended
    → let r = plain_run t s numbers in
    Leads t s numbers r.state r.cost
unfolding answer
run_leads t s numbers e =
    let r = ended_run t s numbers e in
    let l = does_leads r.done in
    let sum = l.cost in
    let total : r.at.cost ≡ l.charged = omega arith in
    rw (r.answers, total) l.leads

pub record Halves (t : Task) (s p q to : List ℕ) (c : ℕ) : Type 0 where
  pub at : List ℕ
  pub first : ℕ
  pub second : ℕ
  pub leads : Leads t s p at first
  pub then : Leads t at q to second
  pub sum : first + second ≡ c

-- the last number of a list, done in the state that the others lead to
pub record LastStep (t : Task) (s p : List ℕ) (o : ℕ) (to : List ℕ) (c : ℕ) : Type 0 where
  pub at : List ℕ
  pub before : ℕ
  pub leads : Leads t s p at before
  pub applies : applicable t at o ≡ true
  pub state : next t at o ≡ to
  pub cost : before + charge t at o ≡ c

module _ {t : Task} where
  -- from the front: one list behind another
  pub leads_append :
      {s p at q to : List ℕ} {c d e : ℕ} → Leads t s p at c → Leads t at q to d → c + d ≡ e → Leads t s (p ++ q) to e
  leads_append {d = d} {e = e} (stays same z) m sum =
      let cost : d ≡ e = omega arith in
      rw (same, ← cost) m
  leads_append {d = d} {e = e} (goes {s = s} {o = o} {d = b} a l z) m sum =
      let cost : charge t s o + (b + d) ≡ e = omega arith in
      goes a (leads_append l m refl) cost

  pub leads_split : (p : List ℕ) {s q to : List ℕ} {c : ℕ} → Leads t s (p ++ q) to c → Halves t s p q to c
  leads_split [] {s} {c = c} l =
      record { at = s; first = 0; second = c; leads = stays refl refl; then = l; sum = omega arith }
  leads_split (o ∷ p) {s} (goes a l z) =
      let h = leads_split p l in
      let sum = h.sum in
      record {
        at = h.at;
        first = charge t s o + h.first;
        second = h.second;
        leads = goes a h.leads refl;
        then = h.then;
        sum = omega arith;
      }

  -- a list leads from a state to one state, at one cost
  pub leads_once :
      {s p to to' : List ℕ} {c c' : ℕ} → Leads t s p to c → Leads t s p to' c' → (to ≡ to') × (c ≡ c')
  leads_once (stays e z) (stays f y) = (sym e ∙ f, sym z ∙ y)
  leads_once (goes a l z) (goes b m y) =
      let once = leads_once l m in
      let costs = once.1 in
      (once.0, omega arith)

  -- from the back: one more number
  pub leads_more :
      {s p at : List ℕ} {c : ℕ}
      → Leads t s p at c
      → (o : ℕ)
      → applicable t at o ≡ true
      → Leads t s (p ++ (o ∷ [])) (next t at o) (c + charge t at o)
  leads_more {at = at} l o a =
      let cost : charge t at o + 0 ≡ charge t at o = omega arith in
      leads_append l (goes a (stays refl refl) cost) refl

  pub leads_last :
      (p : List ℕ) {s : List ℕ} {o : ℕ} {to : List ℕ} {c : ℕ} → Leads t s (p ++ (o ∷ [])) to c → LastStep t s p o to c
  leads_last [] {s} (goes a (stays e z) y) =
      record { at = s; before = 0; leads = stays refl refl; applies = a; state = e; cost = omega arith }
  leads_last (b ∷ p) {s} (goes a l y) =
      let h = leads_last p l in
      let sum = h.cost in
      record {
        at = h.at;
        before = charge t s b + h.before;
        leads = goes a h.leads refl;
        applies = h.applies;
        state = h.state;
        cost = omega arith;
      }

  -- its numbers are all below O
  pub leads_below : {s p to : List ℕ} {c : ℕ} → Leads t s p to c → Below (length t.operators) p
  leads_below (stays e z) = nothing
  leads_below (goes {s = s} {o = o} a l z) = number (below_operators t s o a) (leads_below l)

-- a plan is a list that leads from the initial state to one where the goal holds
pub record Reaches (t : Task) (numbers : List ℕ) : Type 0 where
  pub at : List ℕ
  pub leads : Leads t t.initial numbers at (cost_of t numbers)
  pub goal : goal_holds t at ≡ true

module _ (t : Task) (numbers : List ℕ) where
  pub plan_reaches : Plan t numbers → Reaches t numbers
  unfolding goal_holds
  plan_reaches p =
      let r = plain_run t t.initial numbers in
      let h = (plan_exactly_if r).0 p in
      record {
        at = r.state;
        leads = run_leads t t.initial numbers h.0;
        goal = sym (goal_told t t.initial numbers) ∙ h.1;
      }

  pub reaches_plan :
      {to : List ℕ} {c : ℕ} → Leads t t.initial numbers to c → goal_holds t to ≡ true → Plan t numbers × (cost_of t numbers ≡ c)
  unfolding plain_run answer is_plan unstopped
  reaches_plan {to} {c} l g =
      let told = leads_run l (start t.initial) refl in
      let plan : Plan t numbers = rw told g in
      let from-none : 0 + c ≡ c = omega arith in
      (plan, ap (λ (r : Run). r.cost) told ∙ from-none)

-- each state that a list comes to is one of V bits
value_bits : (p q : Bool) {x : ℕ} → x ≤ 1 → cond p 1 (cond q 0 x) ≤ 1
value_bits true q h = omega arith
value_bits false true h = omega arith
value_bits false false h = h

pub next_bits : (t : Task) {v : ℕ} {s : List ℕ} (o : ℕ) → Bits v s → Bits v (next t s o)
unfolding next apply value_after
next_bits t {v} {s} o b =
    record {
      size = length_after s (effect_of_operator t o) ∙ b.size;
      bits =
          λ k below. let inside : k < length s = rw (length_after s (effect_of_operator t o)) at below in
          rw (getD_upto (length s) (value_after s (effect_of_operator t o)) k 0 inside)
          (value_bits (effcond s (sets k) (effect_of_operator t o)) (effcond s (clears k) (effect_of_operator t o))
          (b.bits k inside));
    }

pub leads_bits : {t : Task} {v : ℕ} {s p to : List ℕ} {c : ℕ} → Leads t s p to c → Bits v s → Bits v to
leads_bits (stays e z) b = rw (← e) b
leads_bits {t} (goes {o = o} a l z) b = leads_bits l (next_bits t o b)

-- Leaving out a loop: a list of 2^V numbers or more comes to some state twice, so a shorter one leads to the same state and costs no more. Hence lists
-- of at most 2^V - 1 numbers are enough. Assumes nothing.
use Prim.Native.Nat.{ℕ, zero, suc, ◌+◌, ◌-◌, ◌^◌, ◌≤◌, ◌<◌}
use native.Mathlib.Nat.{one-le-pow}
use native.Mathlib.Omega.{arith}
use native.Mathlib.Decide.{dec_lt}
use mathlib.Core.Path.{◌≡◌, refl, ap, ◌∙◌}
use mathlib.Core.List.{List, ◌++◌}
use lib.ListN.{length, take, drop, length-append, length-drop, take-append-drop}
use lib.Seq.{take-add, length-take-le}
use Rattle.task.specs.Table.{Task}
use Rattle.cheapest_plan.specs.Order.{Before, cheaper, shorter}
use Rattle.cheapest_plan.specs.Inner.Leads.{Leads}
use Rattle.cheapest_plan.specs.Inner.States.{Bits, code}
use Rattle.cheapest_plan.specs.Inner.Search.{NoLater, equal, before}
use Rattle.cheapest_plan.proofs.Order.{no_later_transitive}
use Rattle.cheapest_plan.proofs.Leads.{Halves, leads_append, leads_split, leads_once, leads_bits}
use Rattle.cheapest_plan.proofs.States.{code_below, code_tells}
use Rattle.cheapest_plan.proofs.Pigeonhole.{pigeonhole}

-- the numbers in front cost no more than all
front_cost :
    {t : Task} {s at to : List ℕ} {c d : ℕ} (p q : List ℕ) → Leads t s p at c → Leads t s (p ++ q) to d → c ≤ d
front_cost p q l m =
    let h = leads_split p m in
    let once = (leads_once l h.leads).1 in
    let sum = h.sum in
    omega arith

-- a list that leads from s to the same state, in fewer steps and at no more cost
pub record Fewer (t : Task) (s p to : List ℕ) (c : ℕ) : Type 0 where
  pub numbers : List ℕ
  pub cost : ℕ
  pub leads : Leads t s numbers to cost
  pub steps : length numbers < length p
  pub no_dearer : cost ≤ c

module _ {t : Task} {s p to : List ℕ} {c : ℕ} (l : Leads t s p to c) where
  -- where the first k numbers lead, and the others from there
  halfway : (k : ℕ) → Halves t s (take k p) (drop k p) to c
  halfway k = leads_split (take k p) (rw (take-append-drop k p) l)

  -- the state that the first i numbers lead to is that of the first j
  leave_out : (i j : ℕ) → i < j → j ≤ length p → (halfway i).at ≡ (halfway j).at → Fewer t s p to c
  leave_out i j less inside same =
      let first = halfway i in
      let second = halfway j in
      let sum = second.sum in
      let parts : take j p ≡ take i p ++ take (j - i) (drop i p) =
      let all : j ≡ i + (j - i) = omega arith in
      ap (λ (k : ℕ). take k p) all ∙ take-add i (j - i) p in
      let less_cost : first.first ≤ second.first =
      front_cost (take i p) (take (j - i) (drop i p)) first.leads (rw parts at second.leads) in
      record {
        numbers = take i p ++ drop j p;
        cost = first.first + second.second;
        leads = leads_append first.leads (rw same second.then) refl;
        steps =
            omega
            (arith, length-append (take i p) (drop j p), length-take-le i p (omega arith), length-drop j p);
        no_dearer = omega arith;
      }

  -- it comes to some state twice
  pub leave_loop : (v : ℕ) → Bits v s → 2 ^ v ≤ length p → Fewer t s p to c
  leave_loop v bits long =
      let width : (k : ℕ) → Bits v (halfway k).at = λ k. leads_bits (halfway k).leads bits in
      let w =
      pigeonhole (2 ^ v) (suc (length p)) (λ k. code (halfway k).at)
      (λ k below. code_below v (halfway k).at (width k))
      (omega arith) in
      let inside = w.below in
      leave_out w.first w.second w.less (omega arith)
      (code_tells v (halfway w.first).at (halfway w.second).at (width w.first) (width w.second) w.same)

-- a list of at most 2^V - 1 numbers that leads to the same state and is no later in 02's order
pub record Short (t : Task) (v : ℕ) (s p to : List ℕ) (c : ℕ) : Type 0 where
  pub numbers : List ℕ
  pub cost : ℕ
  pub leads : Leads t s numbers to cost
  pub steps : length numbers ≤ 2 ^ v - 1
  pub no_later : NoLater cost numbers c p

fewer_before : {t : Task} {s p to : List ℕ} {c : ℕ} → (f : Fewer t s p to c) → Before f.cost f.numbers c p
fewer_before {p = p} {c = c} f = go (dec_lt f.cost c)
  where
    go : Dec (f.cost < c) → Before f.cost f.numbers c p
    go (yes l) = cheaper l
    go (no l) = let most = f.no_dearer in shorter (omega arith) f.steps

through :
    {t : Task} {v : ℕ} {s p to : List ℕ} {c : ℕ}
    → (f : Fewer t s p to c)
    → Short t v s f.numbers to f.cost
    → Short t v s p to c
through f h =
    record {
      numbers = h.numbers;
      cost = h.cost;
      leads = h.leads;
      steps = h.steps;
      no_later = no_later_transitive h.no_later (before (fewer_before f));
    }

-- a loop is left out while there is one, n times at most
module _ {t : Task} {v : ℕ} {s to : List ℕ} (bits : Bits v s) where
  short_enough : {p : List ℕ} {c : ℕ} → length p < 2 ^ v → Leads t s p to c → Short t v s p to c
  short_enough {p} {c} few l =
      record { numbers = p; cost = c; leads = l; steps = omega arith; no_later = equal refl refl }

  shorten_by : (n : ℕ) {p : List ℕ} {c : ℕ} → length p ≤ n → Leads t s p to c → Short t v s p to c
  shorten_by zero {p} fits l =
      let some : 1 ≤ 2 ^ v = one-le-pow v 2 (omega arith) in
      short_enough (omega arith) l
  shorten_by (suc n) {p} {c} fits l = go (dec_lt (length p) (2 ^ v)) (λ q b m. shorten_by n m)
    where
      go :
          Dec (length p < 2 ^ v)
          → ((q : List ℕ) (b : ℕ) → length q ≤ n → Leads t s q to b → Short t v s q to b)
          → Short t v s p to c
      go (yes few) again = short_enough few l
      go (no many) again =
          let f = leave_loop l v bits (omega arith) in
          let less = f.steps in
          through f (again f.numbers f.cost (omega arith) f.leads)

  pub shorten : {p : List ℕ} {c : ℕ} → Leads t s p to c → Short t v s p to c
  shorten {p} l = shorten_by (length p) (omega arith) l

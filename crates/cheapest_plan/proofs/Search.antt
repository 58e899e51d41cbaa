-- Laws of a search by 02's order: each list to a state meets the queue, so the state of least cost and steps has its best list, and the first goal state
-- that is taken ends a cheapest plan. Assumes nothing.
use Prim.Native.Nat.{ℕ, ◌+◌, ◌≤◌, ◌<◌}
use native.Mathlib.Omega.{arith}
use native.Mathlib.Decide.{dec_lt}
use mathlib.Core.Path.{◌≡◌, refl, sym, ap, ◌∙◌}
use mathlib.Core.Logic.{◌⊎◌, inl, inr}
use mathlib.Core.Bool.{true, false≢true}
use mathlib.Core.List.{List, [], ◌∷◌, ◌++◌, append-nil, append_assoc}
use lib.ListN.{length, length-append}
use Rattle.task.specs.Table.{Task}
use Rattle.task.specs.Rules.{Checked}
use Rattle.task.specs.Run.{goal_holds, applicable, charge}
use Rattle.cheapest_plan.specs.Cheapest.{no_plan, plan_of, cheapest}
use Rattle.cheapest_plan.specs.Order.{Before, cheaper, shorter, earlier}
use Rattle.cheapest_plan.specs.Inner.Leads.{next, Leads, stays, goes}
use Rattle.cheapest_plan.specs.Inner.States.{Bits}
use Rattle.cheapest_plan.specs.Inner.Search.{NoLater, equal, before, KeyLess, less_cost, less_steps, Status, queued, taken, Has, waits, stands, Reached, Searching, LeastKey}
use Rattle.cheapest_plan.proofs.Order.{Compared, sooner, alike, later, by_numbers_length, before_total, before_behind, no_later_transitive}
use Rattle.cheapest_plan.proofs.Leads.{leads_more, leads_bits, below_operators}
use Rattle.cheapest_plan.proofs.Cheapest.{found_is_cheapest, none_is_cheapest}

-- orders
no_later_behind :
    {c d : ℕ} {p q : List ℕ} → NoLater c p d q → (o e : ℕ) → NoLater (c + e) (p ++ (o ∷ [])) (d + e) (q ++ (o ∷ []))
no_later_behind (equal x y) o e = rw (x, y) (equal refl refl)
no_later_behind (before b) o e = before (before_behind b o e)

-- no later than the front of a list, so less by its key than the whole
key_less : {c d e : ℕ} {p q r : List ℕ} → NoLater c p d q → d ≤ e → length q < length r → KeyLess c p e r
key_less {c} {d} {e} {p} {q} {r} n le l = go n (dec_lt c e)
  where
    go : NoLater c p d q → Dec (c < e) → KeyLess c p e r
    go n (yes less) = less_cost less
    go (equal x y) (no more) = let size = ap length y in less_steps (omega arith) (omega arith)
    go (before (cheaper x)) (no more) = absurd (omega arith)
    go (before (shorter x y)) (no more) = less_steps (omega arith) (omega arith)
    go (before (earlier x y)) (no more) = let size = by_numbers_length y in less_steps (omega arith) (omega arith)

-- a key that is not greater, and so lists before all of a greater key
key_before : {c d e : ℕ} {p q r : List ℕ} → (KeyLess e r c p → ⊥) → KeyLess e r d q → NoLater c p d q
key_before {c} {d} {e} {p} {q} {r} least k = go (before_total c p d q)
  where
    less : Before d q c p → KeyLess e r d q → KeyLess e r c p
    less (cheaper x) (less_cost y) = less_cost (omega arith)
    less (cheaper x) (less_steps y z) = less_cost (omega arith)
    less (shorter x w) (less_cost y) = less_cost (omega arith)
    less (shorter x w) (less_steps y z) = less_steps (omega arith) (omega arith)
    less (earlier x w) (less_cost y) = less_cost (omega arith)
    less (earlier x w) (less_steps y z) = let size = by_numbers_length w in less_steps (omega arith) (omega arith)

    go : Compared ((c ≡ d) × (p ≡ q)) (Before c p d q) (Before d q c p) → NoLater c p d q
    go (sooner b) = before b
    go (alike e) = equal e.0 e.1
    go (later b) = absurd (least (less b k))

-- a lesser key comes before; and a key that none is less than is less, or the same
pub key_less_before : {c d : ℕ} {p q : List ℕ} → KeyLess c p d q → Before c p d q
key_less_before (less_cost l) = cheaper l
key_less_before (less_steps e l) = shorter e l

pub key_cases :
    (c : ℕ) (p : List ℕ) (d : ℕ) (q : List ℕ)
    → (KeyLess d q c p → ⊥)
    → KeyLess c p d q ⊎ ((c ≡ d) × (length p ≡ length q))
key_cases c p d q least = costs (dec_lt c d) (dec_lt d c) (dec_lt (length p) (length q)) (dec_lt (length q) (length p))
  where
    costs :
        Dec (c < d)
        → Dec (d < c)
        → Dec (length p < length q)
        → Dec (length q < length p)
        → KeyLess c p d q ⊎ ((c ≡ d) × (length p ≡ length q))
    costs (yes l) m a b = inl (less_cost l)
    costs (no l) (yes m) a b = absurd (least (less_cost m))
    costs (no l) (no m) (yes a) b = inl (less_steps (omega arith) a)
    costs (no l) (no m) (no a) (yes b) = absurd (least (less_steps (omega arith) b))
    costs (no l) (no m) (no a) (no b) = inr (omega arith, omega arith)

-- How a list to state x meets the queue: x is queued with a list that is no later; or another state is, with a lesser key; or x is taken.
pub data Meets (v : ℕ) (status : List ℕ → Status) (x q : List ℕ) (d : ℕ) : Type 0 where
  at_end : {r : List ℕ} {e : ℕ} → status x ≡ queued r e → NoLater e r d q → Meets v status x q d
  on_the_way : {y r : List ℕ} {e : ℕ} → Bits v y → status y ≡ queued r e → KeyLess e r d q → Meets v status x q d
  not_at_all : {r : List ℕ} {e : ℕ} → status x ≡ taken r e → Meets v status x q d

-- a state's status tells one list
pub has_one : {now : Status} {p q : List ℕ} {c d : ℕ} → Has now p c → Has now q d → (p ≡ q) × (c ≡ d)
has_one (waits e) (waits f) = (cc, cc)
has_one (waits e) (stands f) = let z : ◌≡◌ {A = ℕ} 0 1 = cc in absurd (omega arith)
has_one (stands e) (waits f) = let z : ◌≡◌ {A = ℕ} 0 1 = cc in absurd (omega arith)
has_one (stands e) (stands f) = (cc, cc)

reached_later : {now : Status} {c d : ℕ} {p q : List ℕ} → Reached now c p → NoLater c p d q → Reached now d q
reached_later r n =
    record { numbers = r.numbers; cost = r.cost; has = r.has; no_later = no_later_transitive r.no_later n }

meets_end :
    {v : ℕ} {status : List ℕ → Status} (at x q front : List ℕ) {c d : ℕ}
    → Reached (status at) c front
    → at ≡ x
    → front ≡ q
    → c ≡ d
    → Meets v status x q d
meets_end {v} {status} at x q front {c} {d} r there whole sum = go r.has
  where
    go : Has (status at) r.numbers r.cost → Meets v status x q d
    go (waits e) = at_end (rw there at e) (rw (← whole, ← sum) r.no_later)
    go (stands e) = not_at_all (rw there at e)

longer : (front : List ℕ) (o : ℕ) (rest q : List ℕ) → front ++ (o ∷ rest) ≡ q → length front < length q
longer front o rest q e = rw (← e) (omega (arith, length-append front (o ∷ rest)))

module _ (t : Task) (passes : Checked t) where
  pub start_bits : Bits (length t.initial) t.initial
  start_bits = record { size = refl; bits = passes.initial_bits }

  module _ {status : List ℕ → Status} {last : List ℕ} (searching : Searching t status last (length t.operators)) where
    -- what a step leads to from a state that is taken, all operators of which were stepped
    followed :
        (s front : List ℕ) (c : ℕ)
        → Bits (length t.initial) s
        → Leads t t.initial front s c
        → (p : List ℕ) (e : ℕ)
        → status s ≡ taken p e
        → (o : ℕ)
        → applicable t s o ≡ true
        → Reached (status (next t s o)) (c + charge t s o) (front ++ (o ∷ []))
    followed s front c bits l p e is o a =
        reached_later (searching.follows s bits p e is o a (λ same. below_operators t s o a))
        (no_later_behind (searching.best s bits p e is front c l) o (charge t s o))

    -- from a state on the way, reached by a list that is no later than the front
    meets_from :
        (front : List ℕ) {at rest x : List ℕ} {c d : ℕ}
        → Leads t t.initial front at c
        → Reached (status at) c front
        → Leads t at rest x d
        → (q : List ℕ) (f : ℕ)
        → front ++ rest ≡ q
        → c + d ≡ f
        → Meets (length t.initial) status x q f
    meets_from front l r (stays {s = s} {to = to} there z) q f whole sum =
        meets_end s to q front r there (sym (append-nil front) ∙ whole) (omega arith)
    meets_from front {c = c} l r (goes {s = s} {to = to} {numbers = rest} {o = o} {d = e} a m z) q f whole sum =
        go r.has
        (λ g. meets_from (front ++ (o ∷ [])) (leads_more l o a) g m q f (append_assoc front (o ∷ []) rest ∙ whole) (omega arith))
      where
        bits : Bits (length t.initial) s
        bits = leads_bits l start_bits

        go :
            Has (status s) r.numbers r.cost
            → (Reached (status (next t s o)) (c + charge t s o) (front ++ (o ∷ [])) → Meets (length t.initial) status to q f)
            → Meets (length t.initial) status to q f
        go (waits is) further = on_the_way bits is (key_less r.no_later (omega arith) (longer front o rest q whole))
        go (stands is) further = further (followed s front c bits l r.numbers r.cost is o a)

    pub meets : (x q : List ℕ) (d : ℕ) → Leads t t.initial q x d → Meets (length t.initial) status x q d
    meets x q d l = meets_from [] (stays refl refl) searching.start l q d refl (omega arith)

    -- the queued state with the least key has its best list
    pub least_key_best :
        (s : List ℕ)
        → (p : List ℕ) (c : ℕ)
        → status s ≡ queued p c
        → LeastKey (length t.initial) status p c
        → (q : List ℕ) (d : ℕ)
        → Leads t t.initial q s d
        → NoLater c p d q
    least_key_best s p c is least q d l = go (meets s q d l)
      where
        go : Meets (length t.initial) status s q d → NoLater c p d q
        go (at_end e n) =
            let one = has_one (waits is) (waits e) in
            rw (one.0, one.1) n
        go (on_the_way {y = y} {r = r} {e = e} bits w k) = key_before (least.none_less y bits r e w) k
        go (not_at_all e) = let z : ◌≡◌ {A = ℕ} 0 1 = cc in absurd (omega arith)

    -- a queued goal state of the least key, whose list is no later than those of all queued goal states, ends the cheapest plan
    pub end_is_cheapest :
        (s : List ℕ)
        → Bits (length t.initial) s
        → (p : List ℕ) (c : ℕ)
        → status s ≡ queued p c
        → goal_holds t s ≡ true
        → LeastKey (length t.initial) status p c
        → ((y : List ℕ) → Bits (length t.initial) y → (r : List ℕ) (e : ℕ) → status y ≡ queued r e → goal_holds t y ≡ true → NoLater c p e r)
        → cheapest t ≡ plan_of p c
    end_is_cheapest s bits p c is goal least first =
        found_is_cheapest t passes (searching.leads s bits p c (waits is)) goal (λ q x d l g. go q x d l g (meets x q d l))
      where
        go :
            (q x : List ℕ) (d : ℕ)
            → Leads t t.initial q x d
            → goal_holds t x ≡ true
            → Meets (length t.initial) status x q d
            → NoLater c p d q
        go q x d l g (at_end {r = r} {e = e} w n) = no_later_transitive (first x (leads_bits l start_bits) r e w g) n
        go q x d l g (on_the_way {y = y} {r = r} {e = e} b w k) = key_before (least.none_less y b r e w) k
        go q x d l g (not_at_all {r = r} {e = e} w) =
            absurd (false≢true (sym (searching.no_goal x (leads_bits l start_bits) r e w) ∙ g))

    -- where nothing is queued there is no plan
    pub empty_queue :
        ((y : List ℕ) → Bits (length t.initial) y → (r : List ℕ) (e : ℕ) → status y ≡ queued r e → ⊥)
        → cheapest t ≡ no_plan
    empty_queue empty = none_is_cheapest t passes (λ q x d l g. go q x d l g (meets x q d l))
      where
        go :
            (q x : List ℕ) (d : ℕ)
            → Leads t t.initial q x d
            → goal_holds t x ≡ true
            → Meets (length t.initial) status x q d
            → ⊥
        go q x d l g (at_end {r = r} {e = e} w n) = empty x (leads_bits l start_bits) r e w
        go q x d l g (on_the_way {y = y} {r = r} {e = e} b w k) = empty y b r e w
        go q x d l g (not_at_all {r = r} {e = e} w) =
            false≢true (sym (searching.no_goal x (leads_bits l start_bits) r e w) ∙ g)

-- What a search knows of the states is kept as it goes on: at its begin, where a state is taken from the queue, and at each step of an operator from it.
-- Assumes nothing.
use Prim.Native.Nat.{ℕ, ◌+◌, ◌<◌}
use native.Mathlib.Omega.{arith}
use native.Mathlib.Decide.{dec_lt, ℕ_discrete}
use mathlib.Core.Path.{◌≡◌, refl, sym, ap, ◌∙◌}
use mathlib.Core.Bool.{true, false, false≢true}
use mathlib.Core.List.{List, [], ◌∷◌, ◌++◌}
use lib.ListN.{length}
use Rattle.task.specs.Table.{Task}
use Rattle.task.specs.Rules.{Checked}
use Rattle.task.specs.Run.{goal_holds, applicable, charge}
use Rattle.cheapest_plan.specs.Inner.Leads.{next, Leads, stays}
use Rattle.cheapest_plan.specs.Inner.States.{Bits, code}
use Rattle.cheapest_plan.specs.Inner.Search.{NoLater, equal, Status, unreached, queued, taken, Has, waits, stands, Reached, Searching, Changed, LeastKey}
use Rattle.cheapest_plan.proofs.Order.{no_later_transitive}
use Rattle.cheapest_plan.proofs.Leads.{leads_more, next_bits, below_operators}
use Rattle.cheapest_plan.proofs.States.{code_tells}
use Rattle.cheapest_plan.proofs.Search.{has_one, start_bits, least_key_best}

-- two states are the same or not
pub same_state : (v : ℕ) (x y : List ℕ) → Bits v x → Bits v y → Dec (x ≡ y)
same_state v x y a b = go (ℕ_discrete (code x) (code y))
  where
    go : Dec (code x ≡ code y) → Dec (x ≡ y)
    go (yes e) = yes (code_tells v x y a b e)
    go (no n) = no (λ e. n (ap code e))

-- the three cases of a status exclude each other
not_unreached : {now : Status} {p : List ℕ} {c : ℕ} → now ≡ unreached → Has now p c → ⊥
not_unreached e (waits f) = let z : ◌≡◌ {A = ℕ} 0 1 = cc in omega arith
not_unreached e (stands f) = let z : ◌≡◌ {A = ℕ} 0 1 = cc in omega arith

not_both : {now : Status} {p q : List ℕ} {c d : ℕ} → now ≡ queued p c → now ≡ taken q d → ⊥
not_both e f = let z : ◌≡◌ {A = ℕ} 0 1 = cc in omega arith

module _ (t : Task) (passes : Checked t) where
  -- At the begin the initial state alone is reached, by the empty list.
  pub begun :
      {status : List ℕ → Status} (last : List ℕ)
      → status t.initial ≡ queued [] 0
      → ((x : List ℕ) → Bits (length t.initial) x → (x ≡ t.initial → ⊥) → status x ≡ unreached)
      → Searching t status last (length t.operators)
  begun {status} last first others =
      record {
        leads = λ s bits p c h. at s p c (same_state (length t.initial) s t.initial bits (start_bits t passes)) bits h;
        best = λ s bits p c e q d l. absurd (none s p c bits e);
        no_goal = λ s bits p c e. absurd (none s p c bits e);
        start = record { numbers = []; cost = 0; has = waits first; no_later = equal refl refl };
        follows = λ s bits p c e o a l. absurd (none s p c bits e);
      }
    where
      at :
          (s p : List ℕ) (c : ℕ)
          → Dec (s ≡ t.initial)
          → Bits (length t.initial) s
          → Has (status s) p c
          → Leads t t.initial p s c
      at s p c (yes e) bits h =
          let one = has_one (waits (ap status e ∙ first)) h in
          rw (← one.0) (stays (sym e) one.1)
      at s p c (no n) bits h = absurd (not_unreached (others s bits n) h)

      none : (s p : List ℕ) (c : ℕ) → Bits (length t.initial) s → status s ≡ taken p c → ⊥
      none s p c bits e = go (same_state (length t.initial) s t.initial bits (start_bits t passes))
        where
          go : Dec (s ≡ t.initial) → ⊥
          go (yes f) = not_both (ap status f ∙ first) e
          go (no n) = not_unreached (others s bits n) (stands e)

-- a state's status changes to one with a list that is no later than the one it had: what was reached stays reached
module _
    {v : ℕ} {status after : List ℕ → Status} {y : List ℕ} {now : Status} {p : List ℕ} {c : ℕ}
    (change : Changed v status after y now) (place : Bits v y) (has : Has now p c)
    (improves : (r : List ℕ) (e : ℕ) → Has (status y) r e → NoLater c p e r)
  where
    still_reached : {d : ℕ} {q : List ℕ} (x : List ℕ) → Bits v x → Reached (status x) d q → Reached (after x) d q
    still_reached {d} {q} x bits r = go (same_state v x y bits place)
      where
        go : Dec (x ≡ y) → Reached (after x) d q
        go (yes e) =
            record {
              numbers = p;
              cost = c;
              has = rw (e, change.here) has;
              no_later = no_later_transitive (improves r.numbers r.cost (rw e at r.has)) r.no_later;
            }
        go (no n) = rw (change.elsewhere x bits n) r

module _ (t : Task) (passes : Checked t) {status : List ℕ → Status} where
  -- A state of the least key is taken, and is no goal state: no operator was stepped from it yet.
  module _ {after : List ℕ → Status} {last : List ℕ} (searching : Searching t status last (length t.operators)) where
    pub taking :
        (s : List ℕ)
        → Bits (length t.initial) s
        → (p : List ℕ) (c : ℕ)
        → status s ≡ queued p c
        → LeastKey (length t.initial) status p c
        → goal_holds t s ≡ false
        → Changed (length t.initial) status after s (taken p c)
        → Searching t after s 0
    taking s place p c is least not_yet change =
        record {
          leads = λ x bits q d h. leads x bits q d h (same x bits);
          best = λ x bits q d e. best x bits q d e (same x bits);
          no_goal = λ x bits q d e. no_goal x bits q d e (same x bits);
          start = still t.initial (start_bits t passes) searching.start;
          follows = λ x bits q d e o a l. follows x bits q d e o a l (same x bits);
        }
      where
        same : (x : List ℕ) → Bits (length t.initial) x → Dec (x ≡ s)
        same x bits = same_state (length t.initial) x s bits place

        still : {d : ℕ} {q : List ℕ} (x : List ℕ) → Bits (length t.initial) x → Reached (status x) d q → Reached (after x) d q
        still x bits r =
            still_reached change place (stands refl)
            (λ r e h. let one = has_one (waits is) h in equal one.1 one.0) x bits r

        leads :
            (x : List ℕ)
            → Bits (length t.initial) x
            → (q : List ℕ) (d : ℕ)
            → Has (after x) q d
            → Dec (x ≡ s)
            → Leads t t.initial q x d
        leads x bits q d h (yes e) =
            let one = has_one (stands (ap after e ∙ change.here)) h in
            rw (e, ← one.0, ← one.1) (searching.leads s place p c (waits is))
        leads x bits q d h (no n) = searching.leads x bits q d (rw (change.elsewhere x bits n) at h)

        best :
            (x : List ℕ)
            → Bits (length t.initial) x
            → (q : List ℕ) (d : ℕ)
            → after x ≡ taken q d
            → Dec (x ≡ s)
            → (r : List ℕ) (e : ℕ)
            → Leads t t.initial r x e
            → NoLater d q e r
        best x bits q d f (yes e) r b l =
            let one = has_one (stands (ap after e ∙ change.here)) (stands f) in
            rw (← one.0, ← one.1) (least_key_best t passes searching s p c is least r b (rw e at l))
        best x bits q d f (no n) r b l = searching.best x bits q d (sym (change.elsewhere x bits n) ∙ f) r b l

        no_goal :
            (x : List ℕ) → Bits (length t.initial) x → (q : List ℕ) (d : ℕ) → after x ≡ taken q d → Dec (x ≡ s) → goal_holds t x ≡ false
        no_goal x bits q d f (yes e) = rw e not_yet
        no_goal x bits q d f (no n) = searching.no_goal x bits q d (sym (change.elsewhere x bits n) ∙ f)

        follows :
            (x : List ℕ)
            → Bits (length t.initial) x
            → (q : List ℕ) (d : ℕ)
            → after x ≡ taken q d
            → (o : ℕ)
            → applicable t x o ≡ true
            → (x ≡ s → o < 0)
            → Dec (x ≡ s)
            → Reached (after (next t x o)) (d + charge t x o) (q ++ (o ∷ []))
        follows x bits q d f o a below (yes e) = absurd (let l = below e in omega arith)
        follows x bits q d f o a below (no n) =
            still (next t x o) (next_bits t o bits)
            (searching.follows x bits q d (sym (change.elsewhere x bits n) ∙ f) o a (λ e. below_operators t x o a))

  -- Operator k is stepped from the state that was taken last.
  module _ {s : List ℕ} {k : ℕ} (searching : Searching t status s k) (place : Bits (length t.initial) s) where
    -- the state that it leads to is reached already, by a list that is no later
    one_more :
        ((p : List ℕ) (c : ℕ) → status s ≡ taken p c → applicable t s k ≡ true → Reached (status (next t s k)) (c + charge t s k) (p ++ (k ∷ [])))
        → Searching t status s (k + 1)
    one_more reached =
        record {
          leads = searching.leads;
          best = searching.best;
          no_goal = searching.no_goal;
          start = searching.start;
          follows = λ x bits p c e o a l. follows x bits p c e o a l (same_state (length t.initial) x s bits place) (dec_lt o k);
        }
      where
        follows :
            (x : List ℕ)
            → Bits (length t.initial) x
            → (p : List ℕ) (c : ℕ)
            → status x ≡ taken p c
            → (o : ℕ)
            → applicable t x o ≡ true
            → (x ≡ s → o < k + 1)
            → Dec (x ≡ s)
            → Dec (o < k)
            → Reached (status (next t x o)) (c + charge t x o) (p ++ (o ∷ []))
        follows x bits p c e o a l (no n) m = searching.follows x bits p c e o a (λ q. absurd (n q))
        follows x bits p c e o a l (yes q) (yes m) = searching.follows x bits p c e o a (λ r. m)
        follows x bits p c e o a l (yes q) (no m) =
            let last = l q in
            let number : o ≡ k = omega arith in
            let at : status s ≡ taken p c = ap status (sym q) ∙ e in
            let may : applicable t s k ≡ true = rw (← q, ← number) a in
            rw (q, number) (reached p c at may)

    -- it is not applicable
    pub passed_over : applicable t s k ≡ false → Searching t status s (k + 1)
    passed_over e = one_more (λ p c is a. absurd (false≢true (sym e ∙ a)))

    module _ (p : List ℕ) (c : ℕ) (is : status s ≡ taken p c) where
      -- the list that stands there is no later
      pub kept : Reached (status (next t s k)) (c + charge t s k) (p ++ (k ∷ [])) → Searching t status s (k + 1)
      kept r = one_more (λ q d e a. let one = has_one (stands is) (stands e) in rw (← one.0, ← one.1) r)

-- A state that is not taken is queued with a list that leads to it and is no later than the one it had.
module _
    (t : Task) (passes : Checked t) {status after : List ℕ → Status} {last : List ℕ} {k : ℕ}
    (searching : Searching t status last k) (y : List ℕ) (place : Bits (length t.initial) y) {p : List ℕ} {c : ℕ}
    (list : Leads t t.initial p y c)
    (not_taken : (r : List ℕ) (e : ℕ) → status y ≡ taken r e → ⊥)
    (improves : (r : List ℕ) (e : ℕ) → status y ≡ queued r e → NoLater c p e r)
    (change : Changed (length t.initial) status after y (queued p c))
  where
    better : (r : List ℕ) (e : ℕ) → Has (status y) r e → NoLater c p e r
    better r e (waits h) = improves r e h
    better r e (stands h) = absurd (not_taken r e h)

    -- what is taken was taken
    was : (x : List ℕ) → Bits (length t.initial) x → (q : List ℕ) (d : ℕ) → after x ≡ taken q d → status x ≡ taken q d
    was x bits q d e = go (same_state (length t.initial) x y bits place)
      where
        go : Dec (x ≡ y) → status x ≡ taken q d
        go (yes f) = absurd (not_both (ap after f ∙ change.here) e)
        go (no n) = sym (change.elsewhere x bits n) ∙ e

    leads_there :
        (x : List ℕ)
        → Bits (length t.initial) x
        → (q : List ℕ) (d : ℕ)
        → Has (after x) q d
        → Dec (x ≡ y)
        → Leads t t.initial q x d
    leads_there x bits q d h (yes e) =
        let one = has_one (waits (ap after e ∙ change.here)) h in
        rw (e, ← one.0, ← one.1) list
    leads_there x bits q d h (no n) = searching.leads x bits q d (rw (change.elsewhere x bits n) at h)

    pub requeued : Searching t after last k
    requeued =
        record {
          leads = λ x bits q d h. leads_there x bits q d h (same_state (length t.initial) x y bits place);
          best = λ x bits q d e. searching.best x bits q d (was x bits q d e);
          no_goal = λ x bits q d e. searching.no_goal x bits q d (was x bits q d e);
          start = still_reached change place (waits refl) better t.initial (start_bits t passes) searching.start;
          follows =
              λ x bits q d e o a l.
              still_reached change place (waits refl) better (next t x o) (next_bits t o bits)
              (searching.follows x bits q d (was x bits q d e) o a l);
        }

module _
    (t : Task) (passes : Checked t) {status : List ℕ → Status} {s : List ℕ} {k : ℕ}
    (searching : Searching t status s k) (place : Bits (length t.initial) s)
    (p : List ℕ) (c : ℕ) (is : status s ≡ taken p c) (a : applicable t s k ≡ true)
  where
    to_there : Leads t t.initial (p ++ (k ∷ [])) (next t s k) (c + charge t s k)
    to_there = leads_more (searching.leads s place p c (stands is)) k a

    -- as it is where the state was taken
    pub taken_before : (r : List ℕ) (e : ℕ) → status (next t s k) ≡ taken r e → Searching t status s (k + 1)
    taken_before r e there =
        kept t passes searching place p c is
        (record {
          numbers = r;
          cost = e;
          has = stands there;
          no_later = searching.best (next t s k) (next_bits t k place) r e there (p ++ (k ∷ [])) (c + charge t s k) to_there;
        })

    -- the state is queued with the new list: it was not reached, or queued with a list that is later
    pub queues :
        {after : List ℕ → Status}
        → ((r : List ℕ) (e : ℕ) → status (next t s k) ≡ taken r e → ⊥)
        → ((r : List ℕ) (e : ℕ) → status (next t s k) ≡ queued r e → NoLater (c + charge t s k) (p ++ (k ∷ [])) e r)
        → Changed (length t.initial) status after (next t s k) (queued (p ++ (k ∷ [])) (c + charge t s k))
        → Searching t after s (k + 1)
    queues {after} not_taken improves change =
        kept t passes (requeued t passes searching (next t s k) (next_bits t k place) to_there not_taken improves change) place p c
        (change.elsewhere s place other ∙ is)
        (record { numbers = p ++ (k ∷ []); cost = c + charge t s k; has = waits change.here; no_later = equal refl refl })
      where
        other : s ≡ next t s k → ⊥
        other e = not_taken p c (ap status (sym e) ∙ is)

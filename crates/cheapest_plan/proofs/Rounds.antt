-- Laws of the search from round to round: what is known at its begin, what its end tells, and that each round takes a state. Assumes nothing.
use Prim.Native.Nat.{ℕ, zero, suc, ◌+◌, ◌≤◌, ◌<◌}
use native.Mathlib.Omega.{arith}
use native.Mathlib.Decide.{ℕ_discrete}
use mathlib.Core.Path.{◌≡◌, refl, sym, ap, ◌∙◌}
use mathlib.Core.Bool.{Bool, true, false, cond}
use mathlib.Core.List.{List, []}
use lib.Dec.{eqb}
use lib.ListN.{length, get_or}
use borrow.Author.Tests.{eq-eqb, ne_eqb}
use Rattle.task.specs.Table.{Lent, Task}
use Rattle.state_queue.specs.Inner.Queue.{winner, Roomy, queued as waits_there}
use Rattle.state_queue.proofs.Changes.{root_state}
use Rattle.cheapest_plan.specs.Cheapest.{no_plan, cheapest}
use Rattle.cheapest_plan.specs.Inner.States.{state_of}
use Rattle.cheapest_plan.specs.Inner.Search.{unreached, queued, Changed}
use Rattle.cheapest_plan.specs.Inner.Tables.{at_start, Says, says_unreached, says_queued}
use Rattle.cheapest_plan.specs.Inner.Visits.{Known, Begun, GoalReady, Visitable, Visited, at_goal, passed, Visits, Searchable, FirstEnd}
use Rattle.cheapest_plan.proofs.States.{state_bits}
use Rattle.cheapest_plan.proofs.Search.{empty_queue}
use Rattle.cheapest_plan.proofs.Searching.{begun}
use Rattle.cheapest_plan.proofs.Holding.{update, updated, other_state}
use Rattle.cheapest_plan.proofs.Visiting.{none-queued, queued_word}

-- how many of the states below n are not taken
unfoldable pub untaken : List ℕ → ℕ → ℕ
untaken words zero = 0
untaken words (suc n) = untaken words n + cond (eqb (get_or words n 0) 0) 0 1

-- one word
one_no_more : (a b : ℕ) → (a ≡ 0 → b ≡ 0) → cond (eqb b 0) 0 1 ≤ cond (eqb a 0) 0 1
one_no_more a b z = go (ℕ_discrete a 0) (ℕ_discrete b 0)
  where
    go : Dec (a ≡ 0) → Dec (b ≡ 0) → cond (eqb b 0) 0 1 ≤ cond (eqb a 0) 0 1
    go x (yes e) = rw (eq-eqb b 0 e) (omega arith)
    go (yes e) (no f) = absurd (f (z e))
    go (no e) (no f) = rw (ne_eqb a 0 e, ne_eqb b 0 f) (omega arith)

one_less : (a b : ℕ) → (a ≡ 0 → ⊥) → b ≡ 0 → cond (eqb b 0) 0 1 < cond (eqb a 0) 0 1
one_less a b ne e = rw (eq-eqb b 0 e, ne_eqb a 0 ne) (omega arith)

module _ (before after : List ℕ) where
  untaken_no_more : (n : ℕ) → ((s : ℕ) → s < n → get_or before s 0 ≡ 0 → get_or after s 0 ≡ 0) → untaken after n ≤ untaken before n
  unfolding untaken
  untaken_no_more zero stay = omega arith
  untaken_no_more (suc n) stay =
      omega (
        arith,
        untaken_no_more n (λ s l z. stay s (omega arith) z),
        one_no_more (get_or before n 0) (get_or after n 0) (stay n (omega arith)),
      )

  untaken_falls :
      (n : ℕ)
      → ((s : ℕ) → s < n → get_or before s 0 ≡ 0 → get_or after s 0 ≡ 0)
      → (s : ℕ)
      → s < n
      → (get_or before s 0 ≡ 0 → ⊥)
      → get_or after s 0 ≡ 0
      → untaken after n < untaken before n
  unfolding untaken
  untaken_falls zero stay s l ne z = absurd (omega arith)
  untaken_falls (suc n) stay s l ne z = go (ℕ_discrete s n) (λ m. untaken_falls n (λ x k y. stay x (omega arith) y) s m ne z)
    where
      go : Dec (s ≡ n) → (s < n → untaken after n < untaken before n) → untaken after (suc n) < untaken before (suc n)
      go (yes q) further =
          omega
          (arith, untaken_no_more n (λ x k y. stay x (omega arith) y), one_less (get_or before n 0) (get_or after n 0) (rw q at ne) (rw q at z))
      go (no q) further = omega (arith, further (omega arith), one_no_more (get_or before n 0) (get_or after n 0) (stay n (omega arith)))

-- the first state of the queue, and the goal's test, once lists of the same length stand there
pub state_below : {t : Task} {n s : ℕ} {words : List ℕ} → Known t n words → s ≡ winner words n 1 → 0 < n → s < n
state_below k first some = rw first (root_state k.queue some)

pub goal_ready_on :
    {given : Lent} {state scratch state' scratch' : List ℕ}
    → GoalReady given state scratch
    → length state' ≡ length state
    → length scratch' ≡ length scratch
    → GoalReady given state' scratch'
goal_ready_on g a b =
    record {
      few = g.few;
      size = a ∙ g.size;
      there = g.there;
      rule = g.rule;
      goal = g.goal;
      room = omega (arith, g.room, b);
    }

-- a round takes a state
pub round_less :
    {given : Lent} {n s : ℕ} {before after : List ℕ} {r : Bool}
    → Visits given n s before after r
    → r ≡ false
    → s < n
    → waits_there (get_or before s 0) ≡ true
    → untaken after n < untaken before n
round_less {n = n} {s = s} {before = before} {after = after} v no_goal l w =
    untaken_falls before after n v.zeros.stay s l (queued_word (get_or before s 0) w).0 (v.gone no_goal)

-- the begin
module _ {given : Lent} {n start : ℕ} (v : Searchable given n start) where
  at_initial : v.t.initial ≡ state_of (length v.t.initial) start
  at_initial = v.initial ∙ ap (λ (k : ℕ). state_of k start) (sym v.tables.variables)

  pub begun_known : {words : List ℕ} → Begun n start words → Known v.t n words
  begun_known {words} b =
      record {
        status = update (λ x. unreached) start (queued [] 0);
        last = v.t.initial;
        holds = record { at = λ s l. go s l (ℕ_discrete s start) };
        queue = b.queue;
        searching =
            begun v.t v.ground.passes v.t.initial (ap (update (λ x. unreached) start (queued [] 0)) at_initial ∙ change.here)
            (λ x bits ne. change.elsewhere x bits (λ q. ne (q ∙ sym at_initial)));
      }
    where
      change :
          Changed (length v.t.initial) (λ x. unreached) (update (λ x. unreached) start (queued [] 0))
          (state_of (length v.t.initial) start)
          (queued [] 0)
      change = updated (length v.t.initial) v.ground.states (λ x. unreached) start (queued [] 0) v.there

      go :
          (s : ℕ)
          → s < n
          → Dec (s ≡ start)
          → Says (length v.t.initial) n (update (λ x. unreached) start (queued [] 0)) words s
          (update (λ x. unreached) start (queued [] 0) (state_of (length v.t.initial) s))
      go s l (yes q) =
          rw (q, change.here)
          (says_queued {p = []} {c = 0} b.cost (b.steps start v.there) (at_start refl (b.lasts start v.there)) (omega arith) (omega arith))
      go s l (no q) =
          rw (change.elsewhere (state_of (length v.t.initial) s) (state_bits (length v.t.initial) s)
          (other_state (length v.t.initial) v.ground.states start s v.there l q))
          (says_unreached (b.others s l q))

  module _ {words : List ℕ} (known : Known v.t n words) {s : ℕ} (first : s ≡ winner words n 1) where
    -- a round
    unfoldable pub visitable : waits_there (get_or words s 0) ≡ true → Visitable given n s words
    visitable w = record { t = v.t; tables = v.tables; ground = v.ground; known = known; first = first; waiting = w }

    module _ (w : waits_there (get_or words s 0) ≡ true) {after : List ℕ} where
      pub round-known : {r : Bool} → r ≡ false → Visited (visitable w) after r → Known v.t n after
      unfolding visitable
      round-known e (at_goal g q) = let z : ◌≡◌ {A = Bool} true false = e in absurd (let x : ◌≡◌ {A = ℕ} 0 1 = cc in omega arith)
      round-known e (passed k) = k

      pub round-goal : {r : Bool} → r ≡ true → s < n → Visited (visitable w) after r → FirstEnd v.t n after s
      unfolding visitable
      round-goal e l (at_goal g q) = rw q (record { below = l; known = known; first = first; waiting = w; goal = g })
      round-goal e l (passed k) = absurd (let x : ◌≡◌ {A = ℕ} 0 1 = cc in omega arith)

  -- the end
  pub search_none :
      {words : List ℕ} → Known v.t n words → Roomy n words → waits_there (get_or words (winner words n 1) 0) ≡ false → cheapest v.t ≡ no_plan
  search_none known roomy e =
      empty_queue v.t v.ground.passes known.searching (none-queued known.holds v.ground.states known.queue roomy.some e)

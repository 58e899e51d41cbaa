-- Laws of the best end: of all queued goal states of the least key the one whose list comes first ends the cheapest plan. Assumes nothing.
use Prim.Native.Nat.{ℕ, ◌+◌, ◌*◌, ◌≤◌, ◌<◌}
use native.Mathlib.Omega.{arith}
use native.Mathlib.Decide.{ℕ_discrete}
use mathlib.Core.Path.{◌≡◌, refl, sym, ◌∙◌}
use mathlib.Core.Logic.{◌⊎◌, inl, inr}
use mathlib.Core.Bool.{Bool, true, false, false≢true}
use mathlib.Core.List.{List}
use lib.ListN.{length, get_or}
use Rattle.task.specs.Bounded.{upto}
use Rattle.task.specs.Table.{Lent, row_at}
use Rattle.task.specs.Semantics.{holds}
use Rattle.task.specs.Tree.{formula_of}
use Rattle.task.specs.Run.{goal_holds}
use Rattle.cheapest_plan.specs.Order.{FirstByNumbers, earlier}
use Rattle.cheapest_plan.specs.Inner.States.{code, state_of}
use Rattle.cheapest_plan.specs.Inner.Search.{NoLater, equal, before, KeyLess, less_cost, less_steps, queued, waits, LeastKey}
use Rattle.cheapest_plan.specs.Inner.Tables.{Ends, Comparable, Verdict, comes_first, not_first}
use Rattle.cheapest_plan.specs.Inner.Visits.{GoalTold, EndReady, Rivals, takes_over, gives_way, EndFound}
use Rattle.cheapest_plan.proofs.Order.{Compared, sooner, alike, later, by_numbers_total, no_later_transitive}
use Rattle.cheapest_plan.proofs.States.{state_bits, code_below, state_of_code}
use Rattle.cheapest_plan.proofs.Search.{has_one, key_less_before, key_cases, end_is_cheapest}
use Rattle.cheapest_plan.proofs.Holding.{Stands, is_unreached, is_queued, is_taken, stands_at}
use Rattle.cheapest_plan.proofs.Relaxing.{alone}
use Rattle.cheapest_plan.proofs.Visiting.{QueuedAt, queued_at}

module _ {given : Lent} {n end : ℕ} {words : List ℕ} (v : EndReady given n end words) where
  end_at : QueuedAt (length v.t.initial) n v.status words end v.p v.c
  end_at = queued_at v.holds end v.there v.p v.c v.is

  module _ {s : ℕ} (below : s < n) where
    -- another state has a greater key, or the same
    other_keys :
        (r : List ℕ) (e : ℕ)
        → v.status (state_of (length v.t.initial) s) ≡ queued r e
        → KeyLess v.c v.p e r ⊎ ((v.c ≡ e) × (length v.p ≡ length r))
    other_keys r e is =
        key_cases v.c v.p e r
        (v.least.none_less (state_of (length v.t.initial) s) (state_bits (length v.t.initial) s) r e is)

    pub other_cost : (get_or words s 0 ≡ get_or words end 0 → ⊥) → Rivals v s false
    other_cost ne = gives_way (λ r e is goal. go r e is (other_keys r e is))
      where
        go :
            (r : List ℕ) (e : ℕ)
            → v.status (state_of (length v.t.initial) s) ≡ queued r e
            → KeyLess v.c v.p e r ⊎ ((v.c ≡ e) × (length v.p ≡ length r))
            → NoLater v.c v.p e r
        go r e is (inl k) = before (key_less_before k)
        go r e is (inr k) = absurd (ne (omega (arith, end_at.word, (queued_at v.holds s below r e is).word, k.0)))

    pub other_steps : (get_or words (n + s) 0 ≡ get_or words (n + end) 0 → ⊥) → Rivals v s false
    other_steps ne = gives_way (λ r e is goal. go r e is (other_keys r e is))
      where
        go :
            (r : List ℕ) (e : ℕ)
            → v.status (state_of (length v.t.initial) s) ≡ queued r e
            → KeyLess v.c v.p e r ⊎ ((v.c ≡ e) × (length v.p ≡ length r))
            → NoLater v.c v.p e r
        go r e is (inl k) = before (key_less_before k)
        go r e is (inr k) = absurd (ne (omega (arith, end_at.steps, (queued_at v.holds s below r e is).steps, k.1)))

    -- the same key
    module _ (costs : get_or words s 0 ≡ get_or words end 0) (steps : get_or words (n + s) 0 ≡ get_or words (n + end) 0) where
      pub record Level : Type 0 where
        pub r : List ℕ
        pub is : v.status (state_of (length v.t.initial) s) ≡ queued r v.c
        pub size : length r ≡ length v.p
        pub ends : Ends (length v.t.initial) n v.status r (get_or words (2 * n + s) 0)

      pub level : Level
      level = go (stands_at (v.status (state_of (length v.t.initial) s)) (v.holds.at s below))
        where
          go : Stands (length v.t.initial) n v.status words s (v.status (state_of (length v.t.initial) s)) → Level
          go (is_unreached is w) = absurd (omega (arith, end_at.word, end_at.bound))
          go (is_taken r e is w) = absurd (omega (arith, end_at.word))
          go (is_queued r e is w m g x y) =
              let c : e ≡ v.c = omega (arith, end_at.word) in
              record { r = r; is = is ∙ rw c; size = omega (arith, end_at.steps); ends = g }

      unfoldable pub ends_comparable : Comparable n words (get_or words (2 * n + s) 0) (get_or words (2 * n + end) 0)
      unfolding end_at
      ends_comparable =
          record {
            v = length v.t.initial;
            status = v.status;
            holds = v.holds;
            alone = alone v.ground v.searching;
            first = level.r;
            second = v.p;
            first_ends = level.ends;
            second_ends = end_at.ends;
            alike = level.size;
          }

      pub comes-behind : {b : Bool} → Verdict ends_comparable.first ends_comparable.second b → b ≡ false → Rivals v s false
      unfolding ends_comparable
      comes-behind (comes_first x) e = absurd (false≢true (sym e))
      comes-behind (not_first x) e =
          gives_way
          (λ r d is goal.
          let one = has_one (waits level.is) (waits is) in
          rw (← one.0, ← one.1) (go (by_numbers_total v.p level.r (sym level.size))))
        where
          go :
              Compared (v.p ≡ level.r) (FirstByNumbers v.p level.r) (FirstByNumbers level.r v.p)
              → NoLater v.c v.p v.c level.r
          go (sooner g) = before (earlier refl g)
          go (alike g) = equal refl g
          go (later g) = absurd (x g)

      goal_same :
          holds (state_of given.head.variables s) (formula_of (upto given.head.formulas (row_at given.formulas)) given.head.goal) ≡ goal_holds v.t (state_of (length v.t.initial) s)
      unfolding goal_holds
      goal_same = rw (v.variables, v.formulas, v.goal) refl

      -- the list comes first, so the goal decides
      pub goal-decides :
          {b : Bool}
          → Verdict ends_comparable.first ends_comparable.second b
          → b ≡ true
          → {scratch : List ℕ} {r : Bool}
          → GoalTold given s scratch r
          → Rivals v s r
      unfolding ends_comparable
      goal-decides (not_first x) e told = absurd (false≢true e)
      goal-decides (comes_first x) e {r = true} told =
          takes_over level.r level.is level.size (sym goal_same ∙ sym told.told) x
      goal-decides (comes_first x) e {r = false} told =
          gives_way (λ r d is goal. absurd (false≢true (told.told ∙ goal_same ∙ goal)))

-- The loop: the best end among the states below i.
pub record Best {given : Lent} {n first : ℕ} {words : List ℕ} (v : EndReady given n first words) (i end : ℕ) : Type 0 where
  pub there : end < n
  pub p : List ℕ
  pub c : ℕ
  pub is : v.status (state_of (length v.t.initial) end) ≡ queued p c
  pub ends : goal_holds v.t (state_of (length v.t.initial) end) ≡ true
  pub least : LeastKey (length v.t.initial) v.status p c
  pub best :
      (s : ℕ)
      → s < i
      → (r : List ℕ) (e : ℕ)
      → v.status (state_of (length v.t.initial) s) ≡ queued r e
      → goal_holds v.t (state_of (length v.t.initial) s) ≡ true
      → NoLater c p e r

module _ {given : Lent} {n first : ℕ} {words : List ℕ} (v : EndReady given n first words) where
  pub best_begin : Best v 0 first
  best_begin =
      record {
        there = v.there;
        p = v.p;
        c = v.c;
        is = v.is;
        ends = v.ends;
        least = v.least;
        best = λ s l r e is goal. absurd (omega arith);
      }

  module _ {i end : ℕ} (b : Best v i end) where
    unfoldable pub candidate : EndReady given n end words
    candidate =
        record {
          t = v.t;
          variables = v.variables;
          formulas = v.formulas;
          goal = v.goal;
          ground = v.ground;
          status = v.status;
          last = v.last;
          holds = v.holds;
          searching = v.searching;
          there = b.there;
          p = b.p;
          c = b.c;
          is = b.is;
          ends = b.ends;
          least = b.least;
        }

    pub best_stays : {r : Bool} → Rivals candidate i r → r ≡ false → Best v (i + 1) end
    unfolding candidate
    best_stays (takes_over r is size goal x) e = absurd (false≢true (sym e))
    best_stays (gives_way x) e =
        record {
          there = b.there;
          p = b.p;
          c = b.c;
          is = b.is;
          ends = b.ends;
          least = b.least;
          best = λ s l r e is goal. go s l r e is goal (ℕ_discrete s i);
        }
      where
        go :
            (s : ℕ)
            → s < i + 1
            → (r : List ℕ) (e : ℕ)
            → v.status (state_of (length v.t.initial) s) ≡ queued r e
            → goal_holds v.t (state_of (length v.t.initial) s) ≡ true
            → Dec (s ≡ i)
            → NoLater b.c b.p e r
        go s l r e is goal (yes q) = x r e (rw q at is) (rw q at goal)
        go s l r e is goal (no q) = b.best s (omega arith) r e is goal

    pub best_changes : {r : Bool} → Rivals candidate i r → r ≡ true → i < n → Best v (i + 1) i
    unfolding candidate
    best_changes (gives_way x) e below = absurd (false≢true e)
    best_changes (takes_over r is size goal x) e below =
        record {
          there = below;
          p = r;
          c = b.c;
          is = is;
          ends = goal;
          least = record { none_less = λ y bits q d w k. b.least.none_less y bits q d w (lengths k) };
          best = λ s l q d w g. go s l q d w g (ℕ_discrete s i);
        }
      where
        lengths : {d : ℕ} {q : List ℕ} → KeyLess d q b.c r → KeyLess d q b.c b.p
        lengths (less_cost l) = less_cost l
        lengths (less_steps z l) = less_steps z (omega arith)

        go :
            (s : ℕ)
            → s < i + 1
            → (q : List ℕ) (d : ℕ)
            → v.status (state_of (length v.t.initial) s) ≡ queued q d
            → goal_holds v.t (state_of (length v.t.initial) s) ≡ true
            → Dec (s ≡ i)
            → NoLater b.c r d q
        go s l q d w g (yes same) =
            let one = has_one (waits is) (waits (rw same at w)) in
            equal one.1 one.0
        go s l q d w g (no other) = no_later_transitive (before (earlier refl x)) (b.best s (omega arith) q d w g)

    -- one round, by which end comes out of it
    pub best_round :
        {r : Bool} {next : ℕ}
        → Rivals candidate i r
        → i < n
        → ((r ≡ true) × (next ≡ i)) ⊎ ((r ≡ false) × (next ≡ end))
        → Best v (i + 1) next
    best_round rivals below (inl a) = rw a.1 (best_changes rivals a.0 below)
    best_round rivals below (inr b) = rw b.1 (best_stays rivals b.0)

  -- all states
  pub best_found : {i end : ℕ} → Best v i end → n ≤ i → EndFound v.t n end words
  best_found {i} {end} b all =
      record {
        p = b.p;
        c = b.c;
        status = v.status;
        holds = v.holds;
        is = b.is;
        best =
            end_is_cheapest v.t v.ground.passes v.searching (state_of (length v.t.initial) end)
            (state_bits (length v.t.initial) end) b.p b.c b.is b.ends b.least
            (λ y bits r e is goal.
            let there = state_of_code (length v.t.initial) y bits in
            let below : code y < n = rw v.ground.states (code_below (length v.t.initial) y bits) in
            b.best (code y) (omega arith) r e (rw there is) (rw there goal));
      }

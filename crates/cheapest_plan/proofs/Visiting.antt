-- Laws of a visit: the goal is tested in the first state of the queue; if it does not hold there, the state is taken, and where operators lead from it is
-- known. Assumes nothing.
use Prim.Native.Nat.{ℕ, ◌+◌, ◌*◌, ◌^◌, ◌≤◌, ◌<◌}
use native.Mathlib.Omega.{arith}
use native.Mathlib.Decide.{ℕ_discrete}
use mathlib.Core.Path.{◌≡◌, refl, sym, ap, ◌∙◌}
use mathlib.Core.Bool.{Bool, true, false}
use mathlib.Core.List.{List, [], ◌∷◌, ◌++◌}
use lib.Dec.{eqb}
use lib.ListN.{length, get_or, set, take, length-append}
use lib.Seq.{get_or-set_same, get_or-set_other, take_at}
use borrow.Author.Tests.{lt-ltb, ltb-true, ltb-false}
use Rattle.task.specs.Bounded.{upto}
use Rattle.task.specs.Table.{Lent, Operator, row_at, operator_at}
use Rattle.task.specs.Rules.{no_operator}
use Rattle.task.specs.Semantics.{holds}
use Rattle.task.specs.Tree.{formula_of, effect_of}
use Rattle.task.specs.Run.{goal_holds, operator_of, applicable, effect_of_operator}
use Rattle.task.specs.Inner.Values.{bit, Values}
use Rattle.task.proofs.Values.{values_none}
use Rattle.task.proofs.Bounded.{length_upto, getD_upto}
use Rattle.evaluating.specs.Inner.Values.{Valuable, Valued, rows_of}
use Rattle.state_codes.specs.Inner.Masks.{Masked, next_code, RowMasks, Maskable}
use Rattle.state_codes.proofs.Meaning.{row_masked, next_below, next_state}
use Rattle.state_queue.specs.Inner.Queue.{key, queue_cost, winner, Roomy, Queue, Waits, Played, queued as waits_there}
use Rattle.state_queue.proofs.Changes.{root_state, root_least, changed_waits}
use Rattle.state_queue.proofs.Keys.{cost_taken, cost_else}
use Rattle.cheapest_plan.specs.Inner.Leads.{next}
use Rattle.cheapest_plan.specs.Inner.States.{Bits, code, state_of}
use Rattle.cheapest_plan.specs.Inner.Search.{KeyLess, less_cost, less_steps, Status, queued, taken, waits, stands, Changed, LeastKey}
use Rattle.cheapest_plan.specs.Inner.Tables.{Ends, at_start, by_step, most_cost, Says, says_taken, Holds, Stepping, Elsewhere, Zeros}
use Rattle.cheapest_plan.specs.Inner.Visits.{Stage, SteppedTo, GoalReady, GoalTold, TakenNow, Visitable, Visited, at_goal, passed}
use Rattle.cheapest_plan.proofs.Leads.{leads_once}
use Rattle.cheapest_plan.proofs.States.{state_bits, code_below, state_of_code}
use Rattle.cheapest_plan.proofs.Search.{has_one}
use Rattle.cheapest_plan.proofs.Searching.{taking}
use Rattle.cheapest_plan.proofs.Holding.{update, updated, other_state, Stands, is_unreached, is_queued, is_taken, stands_at, ends_on, still_taken, holds_changed}
use Rattle.cheapest_plan.proofs.Relaxing.{key_there}

-- the goal's test
told_bit : (b : Bool) → eqb (bit b) 1 ≡ b
unfolding bit
told_bit true = refl
told_bit false = refl

module _ {given : Lent} {state scratch : List ℕ} (ready : GoalReady given state scratch) (s : ℕ) where
  pub goal_valuable : {now : List ℕ} → now ≡ state_of (length state) s → Valuable given.formulas 0 given.head.formulas now scratch
  goal_valuable {now} e =
      let size : length now ≡ given.head.variables = ap length e ∙ (state_bits (length state) s).size ∙ ready.size in
      record {
        there = ready.there;
        rule = λ i l. rw size (ready.rule i l);
        state_bits = rw e (state_bits (length state) s).bits;
        room = ready.room;
        order = omega arith;
        below = values_none now (rows_of given.head.formulas given.formulas) scratch;
      }

  pub goal_found :
      {now after : List ℕ} → now ≡ state_of (length state) s → Valued given.formulas given.head.formulas now scratch after → GoalTold given s after (eqb (get_or after given.head.goal 0) 1)
  goal_found {now} {after} e v =
      let at : now ≡ state_of given.head.variables s = e ∙ ap (λ (k : ℕ). state_of k s) ready.size in
      record {
        told =
            ap (λ (x : ℕ). eqb x 1) (v.known.at given.head.goal ready.goal)
            ∙ told_bit (holds now (formula_of (rows_of given.head.formulas given.formulas) given.head.goal))
            ∙ ap (λ (x : List ℕ). holds x (formula_of (rows_of given.head.formulas given.formulas) given.head.goal)) at;
        values = rw (← at) v.known;
      }

-- a state is taken
module _ {n s : ℕ} {words : List ℕ} (roomy : Roomy n words) (queue : Queue words n) (below : s < n) where
  other : (j : ℕ) → (j ≡ s → ⊥) → get_or (set words s 0) j 0 ≡ get_or words j 0
  other j ne = get_or-set_other words s j 0 0 (λ z. ne (omega arith))

  pub take_waits : Waits (set words s 0) n s
  take_waits =
      changed_waits
      (record {
        costs = λ x l ne. other x ne;
        steps = λ x l ne. other (n + x) (λ z. omega arith);
        nodes = λ i l. other (3 * n + i) (λ z. omega arith);
      })
      queue below

  pub taken_now : {after : List ℕ} → Played n (set words s 0) after → TakenNow n s words after
  taken_now p =
      record {
        queue = p.queue;
        word = p.front s (omega arith) ∙ get_or-set_same words s 0 0 (omega (arith, roomy));
        costs = λ x l ne. p.front x (omega arith) ∙ other x ne;
        steps = λ x l. p.front (n + x) (omega arith) ∙ other (n + x) (λ z. omega arith);
        lasts = λ x l. p.front (2 * n + x) (omega arith) ∙ other (2 * n + x) (λ z. omega arith);
      }

pub take_zeros : {n s : ℕ} {before after : List ℕ} → TakenNow n s before after → Zeros n before after
take_zeros {n} {s} {before} {after} w = record { stay = λ x l z. go x l z (ℕ_discrete x s) }
  where
    go : (x : ℕ) → x < n → get_or before x 0 ≡ 0 → Dec (x ≡ s) → get_or after x 0 ≡ 0
    go x l z (yes q) = rw q w.word
    go x l z (no q) = w.costs x l q ∙ z

-- whether a word is that of a state in the queue
pub queued_word : (w : ℕ) → waits_there w ≡ true → (w ≡ 0 → ⊥) × (w < 4294967295)
unfolding waits_there
queued_word w e =
    let low : queue_cost w < 4294967294 = ltb-true (queue_cost w) 4294967294 e in
    let some : w ≡ 0 → ⊥ = λ z. omega (arith, cost_taken w z) in
    (some, omega (arith, cost_else w some))

pub unqueued_cost : (w : ℕ) → waits_there w ≡ false → 4294967294 ≤ queue_cost w
unfolding waits_there
unqueued_cost w e = ltb-false (queue_cost w) 4294967294 e

-- the words of a state that is queued
pub record QueuedAt (v n : ℕ) (status : List ℕ → Status) (words : List ℕ) (s : ℕ) (p : List ℕ) (c : ℕ) : Type 0 where
  pub word : get_or words s 0 ≡ c + 1
  pub steps : get_or words (n + s) 0 ≡ length p
  pub ends : Ends v n status p (get_or words (2 * n + s) 0)
  pub bound : c ≤ most_cost
  pub few : length p ≤ 1024

module _ {v n : ℕ} {status : List ℕ → Status} {words : List ℕ} (h : Holds v n status words) where
  pub queued_at : (s : ℕ) → s < n → (p : List ℕ) (c : ℕ) → status (state_of v s) ≡ queued p c → QueuedAt v n status words s p c
  queued_at s l p c is = go (stands_at (status (state_of v s)) (h.at s l))
    where
      go : Stands v n status words s (status (state_of v s)) → QueuedAt v n status words s p c
      go (is_unreached e w) = let z : ◌≡◌ {A = ℕ} 0 1 = cc in absurd (omega arith)
      go (is_taken q d e w) = let z : ◌≡◌ {A = ℕ} 0 1 = cc in absurd (omega arith)
      go (is_queued q d e w m f x y) =
          let one = has_one (waits e) (waits is) in
          record {
            word = w ∙ ap (λ (x : ℕ). x + 1) one.1;
            steps = m ∙ ap length one.0;
            ends = rw (← one.0) f;
            bound = omega (arith, one.1);
            few = omega (arith, ap length one.0);
          }

  -- and a state whose word is one of the queue
  pub record IsQueued (s : ℕ) : Type 0 where
    pub p : List ℕ
    pub c : ℕ
    pub is : status (state_of v s) ≡ queued p c
    pub at : QueuedAt v n status words s p c

  pub waiting_at : (s : ℕ) → s < n → waits_there (get_or words s 0) ≡ true → IsQueued s
  waiting_at s l e = go (stands_at (status (state_of v s)) (h.at s l))
    where
      go : Stands v n status words s (status (state_of v s)) → IsQueued s
      go (is_unreached f w) = absurd (omega (arith, queued_word (get_or words s 0) e))
      go (is_taken q d f w) = absurd ((queued_word (get_or words s 0) e).0 w)
      go (is_queued q d f w m g x y) = record { p = q; c = d; is = f; at = queued_at s l q d f }

  module _ (size : n ≡ 2 ^ v) where
    -- by states in place of codes
    pub queued_state : (y : List ℕ) → Bits v y → (p : List ℕ) (c : ℕ) → status y ≡ queued p c → (code y < n) × QueuedAt v n status words (code y) p c
    queued_state y bits p c is =
        let below : code y < n = rw size (code_below v y bits) in
        (below, queued_at (code y) below p c (ap status (state_of_code v y bits) ∙ is))

    module _ (queue : Queue words n) (some : 0 < n) where
      -- the root has the least key
      pub least-key : (s : ℕ) → s ≡ winner words n 1 → (p : List ℕ) (c : ℕ) → QueuedAt v n status words s p c → LeastKey v status p c
      least-key s root p c first = record { none_less = λ y bits r e is k. go y r e (queued_state y bits r e is) k }
        where
          go : (y r : List ℕ) (e : ℕ) → (code y < n) × QueuedAt v n status words (code y) r e → KeyLess e r c p → ⊥
          go y r e (l, q) k =
              let a = root_least queue some (code y) l in
              let b = key_there words n s c first.word in
              let d = key_there words n (code y) e q.word in
              let less : e * 4294967296 + length r < c * 4294967296 + length p = lesser k q.few in
              let f : key words n s ≤ key words n (code y) = rw root a in
              omega (arith, first.steps, q.steps)
            where
              lesser : KeyLess e r c p → length r ≤ 1024 → e * 4294967296 + length r < c * 4294967296 + length p
              lesser (less_cost x) few = omega arith
              lesser (less_steps x z) few = omega arith

      -- where the root is not queued, nothing is
      pub none-queued :
          waits_there (get_or words (winner words n 1) 0) ≡ false
          → (y : List ℕ)
          → Bits v y
          → (r : List ℕ) (e : ℕ)
          → status y ≡ queued r e
          → ⊥
      unfolding key
      none-queued not y bits r e is =
          let q = queued_state y bits r e is in
          let a = root_least queue some (code y) q.0 in
          let b = unqueued_cost (get_or words (winner words n 1) 0) not in
          let c = cost_else (get_or words (code y) 0) (λ z. omega (arith, q.1.word)) in
          omega (arith, q.1)

-- The first state of the queue.
module _ {given : Lent} {n s : ℕ} {words : List ℕ} (v : Visitable given n s words) (roomy : Roomy n words) where
  abbrev at_state : List ℕ
  at_state = state_of (length v.t.initial) s

  pub first_below : s < n
  first_below = rw v.first (root_state v.known.queue roomy.some)

  pub first_queued : IsQueued v.known.holds s
  first_queued = waiting_at v.known.holds s first_below v.waiting

  pub first_least : LeastKey (length v.t.initial) v.known.status first_queued.p first_queued.c
  first_least =
      least-key v.known.holds v.ground.states v.known.queue roomy.some s v.first first_queued.p first_queued.c
      first_queued.at

  -- the goal's test is the task's
  goal_same : holds (state_of given.head.variables s) (formula_of (upto given.head.formulas (row_at given.formulas)) given.head.goal) ≡ goal_holds v.t at_state
  unfolding goal_holds
  goal_same = rw (v.tables.variables, v.tables.formulas, v.tables.goal) refl

  pub visited_goal : {scratch : List ℕ} {r : Bool} → GoalTold given s scratch r → r ≡ true → Visited v words true
  visited_goal told e = at_goal (sym goal_same ∙ sym told.told ∙ e) refl

  -- it is taken
  module _ {scratch : List ℕ} {r : Bool} (told : GoalTold given s scratch r) (not-goal : r ≡ false) {mid : List ℕ} (now : TakenNow n s words mid) where
    pub visit_taken :
        Stepping v.t n mid (state_of (length v.t.initial) s) 0 first_queued.p first_queued.c
    visit_taken =
        record {
          status = update v.known.status s (taken first_queued.p first_queued.c);
          holds = holds_changed (length v.t.initial) v.ground.states first_below change none away v.known.holds says;
          queue = now.queue;
          searching =
              taking v.t v.ground.passes v.known.searching at_state (state_bits (length v.t.initial) s) first_queued.p
              first_queued.c first_queued.is first_least (sym goal_same ∙ sym told.told ∙ not-goal) change;
          is_taken = change.here;
          fresh = λ x u d l is. absurd (none-behind x u d l (ℕ_discrete x s) is);
        }
      where
        change :
            Changed (length v.t.initial) v.known.status
            (update v.known.status s (taken first_queued.p first_queued.c))
            (state_of (length v.t.initial) s)
            (taken first_queued.p first_queued.c)
        change = updated (length v.t.initial) v.ground.states v.known.status s (taken first_queued.p first_queued.c) first_below

        none : (p : List ℕ) (c : ℕ) → v.known.status (state_of (length v.t.initial) s) ≡ taken p c → ⊥
        none p c is = let q = first_queued.is in let z : ◌≡◌ {A = ℕ} 0 1 = cc in omega arith

        -- no list goes on from that of a state that is still queued
        none_after : (x u d : ℕ) → x < n → v.known.status (state_of (length v.t.initial) x) ≡ queued (first_queued.p ++ (u ∷ [])) d → ⊥
        none_after x u d l is = go (queued_at v.known.holds x l (first_queued.p ++ (u ∷ [])) d is).ends
          where
            go : Ends (length v.t.initial) n v.known.status (first_queued.p ++ (u ∷ [])) (get_or words (2 * n + x) 0) → ⊥
            go (at_start q z) = omega (arith, ap length q, length-append first_queued.p (u ∷ []))
            go (by_step parent w front e' below m was z q) =
                let size : length front ≡ length first_queued.p =
                omega (arith, ap length q, length-append first_queued.p (u ∷ []), length-append front (w ∷ [])) in
                let same : front ≡ first_queued.p =
                sym (take_at front (w ∷ []) (length first_queued.p) size)
                ∙ ap (take (length first_queued.p)) (sym q)
                ∙ take_at first_queued.p (u ∷ []) (length first_queued.p) refl in
                let k = length v.t.initial in
                let one =
                (leads_once (v.known.searching.leads (state_of k parent) (state_bits k parent) front e' (stands was))
                (rw (← same) at (v.known.searching.leads at_state (state_bits k s) first_queued.p first_queued.c (waits first_queued.is)))).0 in
                none front e' (ap v.known.status (sym one) ∙ was)

        none-behind :
            (x u d : ℕ)
            → x < n
            → Dec (x ≡ s)
            → update v.known.status s (taken first_queued.p first_queued.c) (state_of (length v.t.initial) x) ≡ queued (first_queued.p ++ (u ∷ [])) d
            → ⊥
        none-behind x u d l (yes q) is = let f = change.here in let g = rw q at is in let z : ◌≡◌ {A = ℕ} 0 1 = cc in omega arith
        none-behind x u d l (no q) is =
            none_after x u d l
            (sym
            (change.elsewhere (state_of (length v.t.initial) x) (state_bits (length v.t.initial) x)
            (other_state (length v.t.initial) v.ground.states s x first_below l q))
            ∙ is)

        away : Elsewhere n s words mid
        away = record { costs = now.costs; steps = λ x l ne. now.steps x l; lasts = λ x l ne. now.lasts x l }

        says :
            Says (length v.t.initial) n (update v.known.status s (taken first_queued.p first_queued.c)) mid s
            (taken first_queued.p first_queued.c)
        says =
            says_taken {p = first_queued.p} now.word (now.steps s first_below ∙ first_queued.at.steps)
            (rw (now.lasts s first_below)
            (ends_on (still_taken (length v.t.initial) v.ground.states first_below change none away) first_queued.at.ends))

    -- where its operators lead
    module _ (few : given.head.variables ≤ 10) {masks : List ℕ} (found : RowMasks given.effects given.head.effects scratch masks) (room : given.head.formulas ≤ length scratch) (masks-room : given.head.effects ≤ length masks) where
      pub operators_number : length v.t.operators ≡ given.head.operators
      operators_number = ap length v.tables.operators ∙ length_upto given.head.operators (operator_at given.operators)

      pub operator-row : (i : ℕ) → i < given.head.operators → operator_of v.t i ≡ operator_at given.operators i
      unfolding operator_of
      operator-row i l =
          ap (λ (x : List Operator). get_or x i no_operator) v.tables.operators
          ∙ getD_upto given.head.operators (operator_at given.operators) i no_operator l

      values : Values at_state (upto given.head.formulas (row_at given.formulas)) given.head.formulas scratch
      values = rw v.tables.variables told.values

      pub operator-applies :
          (i : ℕ) → i < given.head.operators → get_or scratch (operator_at given.operators i).precondition 0 ≡ bit (applicable v.t at_state i)
      unfolding applicable
      operator-applies i l =
          let inside : i < length v.t.operators = rw operators_number l in
          values.at (operator_at given.operators i).precondition (v.tables.ready.operator i l).formula
          ∙ sym (rw (lt-ltb i (length v.t.operators) inside, operator-row i l, v.tables.formulas) refl)

      pub effect-masked :
          (i : ℕ)
          → i < given.head.operators
          → Masked (length v.t.initial) at_state (effect_of (upto given.head.formulas (row_at given.formulas)) (upto given.head.effects (row_at given.effects)) (operator_at given.operators i).effect)
          (get_or masks (operator_at given.operators i).effect 0)
      effect-masked i l =
          row_masked (rw v.tables.variables few)
          (λ j m. rw v.tables.variables (v.tables.ready.effect j m))
          values found (operator_at given.operators i).effect (v.tables.ready.operator i l).changes

      pub code-low : s < 2 ^ length v.t.initial
      code-low = rw (← v.ground.states) first_below

      pub operator-leads :
          (i : ℕ)
          → i < given.head.operators
          → state_of (length v.t.initial) (next_code s (get_or masks (operator_at given.operators i).effect 0)) ≡ next v.t at_state i
      unfolding next effect_of_operator
      operator-leads i l =
          next_state (rw v.tables.variables few) code-low (effect-masked i l)
          ∙ sym (rw (operator-row i l, v.tables.formulas, v.tables.effects) refl)

      unfoldable pub visit_stage : Stage n given.operators given.head.operators s (get_or words s 0) (get_or words (n + s) 0) scratch masks
      visit_stage =
          record {
            t = v.t;
            ground = v.ground;
            number = operators_number;
            few = v.tables.few;
            there = v.tables.ready.operators_there;
            here = first_below;
            row = operator-row;
            precondition = λ i l. omega (arith, (v.tables.ready.operator i l).formula);
            effect = λ i l. omega (arith, (v.tables.ready.operator i l).changes);
            applies = operator-applies;
            inside = λ i l. rw v.ground.states (next_below (rw v.tables.variables few) code-low (effect-masked i l));
            leads = operator-leads;
            p = first_queued.p;
            c = first_queued.c;
            costs = first_queued.at.word;
            size = first_queued.at.steps;
          }

      pub visited-on : {after : List ℕ} → (SteppedTo visit_stage mid 0 → SteppedTo visit_stage after given.head.operators) → Visited v after false
      unfolding visit_stage
      visited-on on =
          let x = on visit_taken in
          passed
          (record {
            status = x.status;
            last = at_state;
            holds = x.holds;
            queue = x.queue;
            searching = rw operators_number x.searching;
          })

-- what the words of effects ask
pub visit_maskable :
    {given : Lent} {n s : ℕ} {words scratch masks : List ℕ}
    → Visitable given n s words
    → given.head.variables ≤ 10
    → given.head.formulas ≤ length scratch
    → given.head.effects ≤ length masks
    → Maskable given.effects given.head.effects scratch masks
visit_maskable {given} v few room masks-room =
    record {
      v = given.head.variables;
      f = given.head.formulas;
      few = few;
      there = v.tables.ready.effects_there;
      rule = v.tables.ready.effect;
      values_there = room;
      room = masks-room;
    }

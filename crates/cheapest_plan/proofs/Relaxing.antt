-- Laws of one operator's step: which list stays at the state that it leads to, and what is known then. Assumes nothing.
use Prim.Native.Nat.{ℕ, ◌+◌, ◌-◌, ◌*◌, ◌/◌, ◌^◌, ◌≤◌, ◌<◌}
use native.Mathlib.Nat.{one-le-pow}
use native.Mathlib.Omega.{arith}
use native.Mathlib.Decide.{dec_lt, ℕ_discrete}
use mathlib.Core.Path.{◌≡◌, refl, sym, ap, ◌∙◌}
use Rattle.std.specs.Prelude.{Option}
use mathlib.Core.Bool.{Bool, true, false, not}
use mathlib.Core.List.{List, [], ◌∷◌, ◌++◌}
use lib.Dec.{ltb}
use lib.ListN.{length, get_or, length-append}
use borrow.Author.Tests.{lt-ltb, le-ltb}
use Rattle.task.specs.Table.{Task}
use Rattle.task.specs.Run.{charge}
use Rattle.state_queue.specs.Inner.Queue.{key, queue_cost, Roomy}
use Rattle.state_queue.proofs.Keys.{cost_else}
use Rattle.cheapest_plan.specs.Order.{FirstByNumbers, cheaper, shorter, earlier}
use Rattle.cheapest_plan.specs.Inner.Leads.{Leads, stays, goes}
use Rattle.cheapest_plan.specs.Inner.States.{Bits, code, state_of}
use Rattle.cheapest_plan.specs.Inner.Search.{NoLater, equal, before, Status, unreached, queued, taken, waits, stands, Searching, Changed}
use Rattle.cheapest_plan.specs.Inner.Tables.{Ends, at_start, by_step, Says, says_queued, Verdict, comes_first, not_first, Noted, Pairs, Notes, Ground}
use Rattle.cheapest_plan.specs.Inner.Tables.{Noting, Relaxable, left_state, new_state, new_list, new_cost, Judged, old_stays, new_comes, MayQueue, QueuedNow, Zeros}
use Rattle.cheapest_plan.proofs.Order.{Compared, sooner, alike, later, by_numbers_length, by_numbers_irreflexive, by_numbers_total}
use Rattle.cheapest_plan.proofs.Leads.{leads_once}
use Rattle.cheapest_plan.proofs.Loops.{shorten}
use Rattle.cheapest_plan.proofs.States.{state_bits}
use Rattle.cheapest_plan.proofs.Search.{start_bits, has_one}
use Rattle.cheapest_plan.proofs.Searching.{kept, taken_before, queues}
use Rattle.cheapest_plan.proofs.Comparing.{not_last, behind}
use Rattle.cheapest_plan.proofs.Holding.{update, code_there, updated, other_state, Stands, is_unreached, is_queued, is_taken, stands_at, still_taken, holds_changed}

-- a list costs at most 131,070 for each step
pub leads_cheap :
    {t : Task} {s p to : List ℕ} {c : ℕ}
    → ((x : List ℕ) (o : ℕ) → charge t x o ≤ 131070)
    → Leads t s p to c
    → c ≤ 131070 * length p
leads_cheap cheap (stays e z) = omega arith
leads_cheap cheap (goes {s = s} {numbers = p} {o = o} {d = d} a l z) = omega (arith, cheap s o, leads_cheap cheap l)

-- no later than a list of fewer than n steps that costs no more, so of fewer than n steps
no_later_short : {c d n : ℕ} {p q : List ℕ} → NoLater c p d q → NoLater d q c p → length q < n → length p < n
no_later_short (equal e f) m l = rw f l
no_later_short (before (cheaper e)) (equal f g) l = absurd (omega arith)
no_later_short (before (cheaper e)) (before (cheaper f)) l = absurd (omega arith)
no_later_short (before (cheaper e)) (before (shorter f g)) l = absurd (omega arith)
no_later_short (before (cheaper e)) (before (earlier f g)) l = absurd (omega arith)
no_later_short (before (shorter e f)) m l = omega arith
no_later_short (before (earlier e f)) m l = omega (arith, by_numbers_length f)

module _ {t : Task} {n : ℕ} (ground : Ground t n) {status : List ℕ → Status} {last : List ℕ} {k : ℕ} (searching : Searching t status last k) where
  -- the list of a state that is taken has fewer than n steps
  pub taken_short : (s : List ℕ) → Bits (length t.initial) s → (p : List ℕ) (c : ℕ) → status s ≡ taken p c → length p < n
  taken_short s bits p c is =
      let l = searching.leads s bits p c (stands is) in
      let short = shorten (start_bits t ground.passes) l in
      let some : 1 ≤ 2 ^ length t.initial = one-le-pow (length t.initial) 2 (omega arith) in
      no_later_short (searching.best s bits p c is short.numbers short.cost short.leads) short.no_later
      (omega (arith, short.steps, ground.states))

  pub taken_cheap : (s : List ℕ) → Bits (length t.initial) s → (p : List ℕ) (c : ℕ) → status s ≡ taken p c → c ≤ 131070 * length p
  taken_cheap s bits p c is = leads_cheap ground.cheap (searching.leads s bits p c (stands is))

  -- states that are taken have lists of their own
  pub alone :
      (a b : ℕ) (p : List ℕ) (c d : ℕ)
      → a < n
      → b < n
      → status (state_of (length t.initial) a) ≡ taken p c
      → status (state_of (length t.initial) b) ≡ taken p d
      → a ≡ b
  alone a b p c d l m is is' =
      let v = length t.initial in
      let once =
      (leads_once (searching.leads (state_of v a) (state_bits v a) p c (stands is))
      (searching.leads (state_of v b) (state_bits v b) p d (stands is'))).0 in
      sym (code_there v ground.states a l) ∙ ap code once ∙ code_there v ground.states b m

-- two numbers in one, by the high one or by the low one
by_high : (a c x y : ℕ) → (a ≡ c → ⊥) → x < 4294967296 → y < 4294967296 → ltb (a * 4294967296 + x) (c * 4294967296 + y) ≡ ltb a c
by_high a c x y ne low low' = go (dec_lt a c)
  where
    go : Dec (a < c) → ltb (a * 4294967296 + x) (c * 4294967296 + y) ≡ ltb a c
    go (yes l) =
        lt-ltb (a * 4294967296 + x) (c * 4294967296 + y) (omega arith) ∙ sym (lt-ltb a c l)
    go (no l) =
        le-ltb (a * 4294967296 + x) (c * 4294967296 + y) (omega arith) ∙ sym (le-ltb a c (omega arith))

same_low : (a c x y : ℕ) → a ≡ c → ltb (a * 4294967296 + x) (c * 4294967296 + y) ≡ ltb x y
same_low a c x y e = go (dec_lt x y)
  where
    go : Dec (x < y) → ltb (a * 4294967296 + x) (c * 4294967296 + y) ≡ ltb x y
    go (yes l) = lt-ltb (a * 4294967296 + x) (c * 4294967296 + y) (omega arith) ∙ sym (lt-ltb x y l)
    go (no l) = le-ltb (a * 4294967296 + x) (c * 4294967296 + y) (omega arith) ∙ sym (le-ltb x y (omega arith))

-- lists that end alike
pub last_same : (p : List ℕ) {a b : ℕ} → p ++ (a ∷ []) ≡ p ++ (b ∷ []) → a ≡ b
last_same [] e = cc
last_same (x ∷ p) e = last_same p cc

-- less than a queued state of this cost and these steps, or one that was not reached
pub key_there : (words : List ℕ) (n s e : ℕ) → get_or words s 0 ≡ e + 1 → key words n s ≡ e * 4294967296 + get_or words (n + s) 0
unfolding key
key_there words n s e q =
    rw (sym (cost_else (get_or words s 0) (λ z. omega arith)))
    (let c : get_or words s 0 - 1 ≡ e = omega arith in rw c refl)

module _ {n : ℕ} {words : List ℕ} {to cost steps step : ℕ} {notes : List (Option Bool)} (h : Relaxable n words to cost steps step notes) where
  place : Bits (length h.t.initial) (left_state h)
  place = state_bits (length h.t.initial) h.from

  pub new_length : length (new_list h) ≡ steps
  new_length = omega (arith, h.longer, length-append h.p (h.k ∷ []))

  few : length h.p < n
  few = taken_short h.ground h.stepping.searching (left_state h) place h.p h.c h.stepping.is_taken

  pub bounded : (cost ≤ 134215681) × (steps ≤ 1024) × (0 < cost)
  bounded =
      let c = taken_cheap h.ground h.stepping.searching (left_state h) place h.p h.c h.stepping.is_taken in
      let d = h.ground.cheap (left_state h) h.k in
      (omega (arith, h.costs, few, h.ground.few), omega (arith, few, h.ground.few, h.longer), omega (arith, h.costs))

  here : Stands (length h.t.initial) n h.stepping.status words to (h.stepping.status (new_state h))
  here = stands_at (h.stepping.status (new_state h)) (rw h.target at (h.stepping.holds.at to h.there))

  -- the list that stands there is no later
  stays_as_is : (r : List ℕ) (e : ℕ) → h.stepping.status (new_state h) ≡ queued r e → NoLater e r (new_cost h) (new_list h) → Judged h true
  stays_as_is r e is n =
      old_stays
      (kept h.t h.ground.passes h.stepping.searching place h.p h.c h.stepping.is_taken
      (record { numbers = r; cost = e; has = waits is; no_later = n }))

  stays_taken : (r : List ℕ) (e : ℕ) → h.stepping.status (new_state h) ≡ taken r e → Judged h true
  stays_taken r e is =
      old_stays
      (taken_before h.t h.ground.passes h.stepping.searching place h.p h.c h.stepping.is_taken h.applies r e is)

  -- the new list is better than the one that stands there, or none does
  comes_to_queued :
      (r : List ℕ) (e : ℕ)
      → h.stepping.status (new_state h) ≡ queued r e
      → NoLater (new_cost h) (new_list h) e r
      → queue_cost cost * 4294967296 + steps ≤ key words n to
      → Judged h false
  comes_to_queued r e is n k =
      new_comes (λ q d f. let z : ◌≡◌ {A = ℕ} 0 1 = cc in omega arith)
      (λ q d f. let one = has_one (waits is) (waits f) in rw (← one.0, ← one.1) n)
      k

  comes_to_unreached : h.stepping.status (new_state h) ≡ unreached → queue_cost cost * 4294967296 + steps ≤ key words n to → Judged h false
  comes_to_unreached is k =
      new_comes (λ q d f. let z : ◌≡◌ {A = ℕ} 0 1 = cc in omega arith)
      (λ q d f. let z : ◌≡◌ {A = ℕ} 0 1 = cc in absurd (omega arith))
      k

  new_key : queue_cost cost * 4294967296 + steps ≡ new_cost h * 4294967296 + steps
  new_key =
      let b = bounded in
      let c : cost - 1 ≡ new_cost h = omega (arith, h.costs) in
      rw (sym (cost_else cost (λ z. omega arith)), c) refl

  old_key : (e : ℕ) → get_or words to 0 ≡ e + 1 → key words n to ≡ e * 4294967296 + get_or words (n + to) 0
  old_key e w = key_there words n to e w

  pub by_cost : (get_or words to 0 ≡ cost → ⊥) → Judged h (ltb (get_or words to 0) cost)
  by_cost ne = go here (dec_lt (get_or words to 0) cost)
    where
      go :
          Stands (length h.t.initial) n h.stepping.status words to (h.stepping.status (new_state h))
          → Dec (get_or words to 0 < cost)
          → Judged h (ltb (get_or words to 0) cost)
      go (is_unreached is w) (yes l) = let b = bounded in absurd (omega arith)
      go (is_queued r e is w m f x z) (yes l) =
          rw (lt-ltb (get_or words to 0) cost l) (stays_as_is r e is (before (cheaper (omega (arith, h.costs)))))
      go (is_taken r e is w) (yes l) = rw (lt-ltb (get_or words to 0) cost l) (stays_taken r e is)
      go (is_unreached is w) (no l) =
          let b = bounded in
          let more : cost ≤ get_or words to 0 = omega arith in
          rw (le-ltb (get_or words to 0) cost more)
          (comes_to_unreached is (omega (arith, new_key, h.costs, old_key 4294967294 (w ∙ refl))))
      go (is_queued r e is w m f x z) (no l) =
          let b = bounded in
          let more : cost ≤ get_or words to 0 = omega arith in
          let less : cost < get_or words to 0 = omega arith in
          rw (le-ltb (get_or words to 0) cost more)
          (comes_to_queued r e is (before (cheaper (omega (arith, h.costs)))) (omega (arith, new_key, h.costs, old_key e w)))
      go (is_taken r e is w) (no l) = let b = bounded in absurd (omega arith)

  module _ (same : get_or words to 0 ≡ cost) where
    -- it is queued there at the same cost
    pub record Level : Type 0 where
      pub r : List ℕ
      pub is : h.stepping.status (new_state h) ≡ queued r (new_cost h)
      pub size : get_or words (n + to) 0 ≡ length r
      pub ends : Ends (length h.t.initial) n h.stepping.status r (get_or words (2 * n + to) 0)
      pub key-is : key words n to ≡ new_cost h * 4294967296 + length r

    pub level : Level
    level = go here
      where
        go : Stands (length h.t.initial) n h.stepping.status words to (h.stepping.status (new_state h)) → Level
        go (is_unreached is w) = let b = bounded in absurd (omega arith)
        go (is_taken r e is w) = let b = bounded in absurd (omega arith)
        go (is_queued r e is w m f x z) =
            let c : e ≡ new_cost h = omega (arith, h.costs) in
            record { r = r; is = is ∙ rw c; size = m; ends = f; key-is = old_key e w ∙ rw (c, m) refl }

    pub by_steps : (get_or words (n + to) 0 ≡ steps → ⊥) → Judged h (ltb (get_or words (n + to) 0) steps)
    by_steps ne = go (dec_lt (get_or words (n + to) 0) steps)
      where
        go : Dec (get_or words (n + to) 0 < steps) → Judged h (ltb (get_or words (n + to) 0) steps)
        go (yes l) =
            rw (lt-ltb (get_or words (n + to) 0) steps l)
            (stays_as_is level.r (new_cost h) level.is (before (shorter refl (omega (arith, level.size, new_length)))))
        go (no l) =
            let more : steps ≤ get_or words (n + to) 0 = omega arith in
            rw (le-ltb (get_or words (n + to) 0) steps more)
            (comes_to_queued level.r (new_cost h) level.is
            (before (shorter refl (omega (arith, level.size, new_length))))
            (omega (arith, new_key, level.key-is, level.size)))

    module _ (long : get_or words (n + to) 0 ≡ steps) where
      by-numbers : (b : Bool) → Verdict (new_list h) level.r b → Judged h (not b)
      by-numbers true (comes_first f) =
          comes_to_queued level.r (new_cost h) level.is (before (earlier refl f)) (omega (arith, new_key, level.key-is, level.size))
      by-numbers false (not_first f) =
          stays_as_is level.r (new_cost h) level.is (go (by_numbers_total (new_list h) level.r (omega (arith, new_length, level.size))))
        where
          go :
              Compared (new_list h ≡ level.r) (FirstByNumbers (new_list h) level.r) (FirstByNumbers level.r (new_list h))
              → NoLater (new_cost h) level.r (new_cost h) (new_list h)
          go (sooner g) = absurd (f g)
          go (alike g) = equal refl (sym g)
          go (later g) = before (earlier refl g)

      -- the list that stands there has a last step, from a state that was taken
      pub record OldParent : Type 0 where
        pub b : ℕ
        pub o : ℕ
        pub q : List ℕ
        pub d : ℕ
        pub there : b < n
        pub number : o < 256
        pub is : h.stepping.status (state_of (length h.t.initial) b) ≡ taken q d
        pub last-is : get_or words (2 * n + to) 0 ≡ 256 * (b + 1) + o
        pub list : level.r ≡ q ++ (o ∷ [])
        pub alike : length h.p ≡ length q

      pub old-parent : OldParent
      old-parent = go level.ends
        where
          go : Ends (length h.t.initial) n h.stepping.status level.r (get_or words (2 * n + to) 0) → OldParent
          go (at_start e z) = absurd (omega (arith, level.size, ap length e, h.longer))
          go (by_step b o q d l m is z e) =
              record {
                b = b;
                o = o;
                q = q;
                d = d;
                there = l;
                number = m;
                is = is;
                last-is = z;
                list = e;
                alike = omega (arith, level.size, ap length e, length-append q (o ∷ []), h.longer);
              }

      -- the lists of the states before it decide
      module _ {a b : ℕ} (a_is : a ≡ step / 256 - 1) (b_is : b ≡ get_or words (2 * n + to) 0 / 256 - 1) where
        pub from_is : a ≡ h.from
        from_is = omega (arith, h.last, h.number)

        pub parent_is : b ≡ old-parent.b
        parent_is = omega (arith, old-parent.last-is, old-parent.number)

        unfoldable pub pairs : Pairs n words a b notes
        pairs =
            record {
              v = length h.t.initial;
              status = h.stepping.status;
              holds = h.stepping.holds;
              alone = alone h.ground h.stepping.searching;
              a_there = rw from_is h.from_state;
              b_there = rw parent_is old-parent.there;
              p = h.p;
              c = h.c;
              q = old-parent.q;
              d = old-parent.d;
              a_is = rw from_is h.stepping.is_taken;
              b_is = rw parent_is old-parent.is;
              alike = old-parent.alike;
              noted = h.noted;
            }

        other-list : (old-parent.b ≡ h.from → ⊥) → h.p ≡ old-parent.q → ⊥
        other-list apart e =
            apart
            (sym
            (alone h.ground h.stepping.searching h.from old-parent.b h.p h.c old-parent.d h.from_state old-parent.there
            h.stepping.is_taken (old-parent.is ∙ ap (λ (x : List ℕ). taken x old-parent.d) (sym e))))

        -- the same state: its operators are stepped upwards, so the one that led there is lower
        own-list : old-parent.b ≡ h.from → old-parent.q ≡ h.p
        own-list e =
            (has_one (stands old-parent.is) (stands (ap (λ (x : ℕ). h.stepping.status (state_of (length h.t.initial) x)) e ∙ h.stepping.is_taken))).0

        own-lower : old-parent.b ≡ h.from → old-parent.o < h.k
        own-lower e =
            h.stepping.fresh to old-parent.o (new_cost h) h.there
            (ap h.stepping.status h.target ∙ level.is ∙ ap (λ (x : List ℕ). queued x (new_cost h)) (old-parent.list ∙ ap (λ (x : List ℕ). x ++ (old-parent.o ∷ [])) (own-list e)))

        own-stays : (r : Bool) → old-parent.b ≡ h.from → Verdict h.p old-parent.q r → Judged h (not r)
        own-stays true e (comes_first f) = absurd (by_numbers_irreflexive (rw (own-list e) at f))
        own-stays false e (not_first f) =
            by-numbers false
            (rw (old-parent.list, own-list e) (not_first (not_last h.p (omega (arith, own-lower e)))))

        module _ {r : Bool} {after : List (Option Bool)} (found : Notes n words a b notes after r) where
          decided : Verdict h.p old-parent.q r
          unfolding pairs
          decided = found.told pairs

          pub by-lists : Judged h (not r)
          by-lists = go (ℕ_discrete old-parent.b h.from)
            where
              go : Dec (old-parent.b ≡ h.from) → Judged h (not r)
              go (yes e) = own-stays r e decided
              go (no e) =
                  by-numbers r
                  (rw old-parent.list (behind h.p old-parent.q h.k old-parent.o old-parent.alike (other-list e) r decided))

          pub noted-after : Noted (length h.t.initial) n h.stepping.status h.p after
          unfolding pairs
          noted-after = found.noted pairs

  -- cost and steps as one number
  module _ (low : get_or words (n + to) 0 < 4294967296) where
    pub by_key :
        (get_or words to 0 * 4294967296 + get_or words (n + to) 0 ≡ cost * 4294967296 + steps → ⊥)
        → Judged h (ltb (get_or words to 0 * 4294967296 + get_or words (n + to) 0) (cost * 4294967296 + steps))
    by_key ne = go (ℕ_discrete (get_or words to 0) cost)
      where
        go :
            Dec (get_or words to 0 ≡ cost)
            → Judged h (ltb (get_or words to 0 * 4294967296 + get_or words (n + to) 0) (cost * 4294967296 + steps))
        go (yes e) =
            let differ : get_or words (n + to) 0 ≡ steps → ⊥ = λ z. ne (rw (e, z) refl) in
            rw (same_low (get_or words to 0) cost (get_or words (n + to) 0) steps e) (by_steps e differ)
        go (no e) =
            rw (by_high (get_or words to 0) cost (get_or words (n + to) 0) steps e low (omega (arith, bounded.1))) (by_cost e)

    pub key_cost : get_or words to 0 * 4294967296 + get_or words (n + to) 0 ≡ cost * 4294967296 + steps → get_or words to 0 ≡ cost
    key_cost e = omega (arith, bounded.1)

    pub key_steps : get_or words to 0 * 4294967296 + get_or words (n + to) 0 ≡ cost * 4294967296 + steps → get_or words (n + to) 0 ≡ steps
    key_steps e = omega (arith, bounded.1)

  -- what is known then: nothing has changed
  pub relaxed_old :
      {r : List (Option Bool)}
      → Judged h true
      → Noted (length h.t.initial) n h.stepping.status h.p r
      → Noting h.t n words r (left_state h) (h.k + 1) h.p h.c
  relaxed_old (old_stays searching) noted =
      record {
        stepping =
            record {
              status = h.stepping.status;
              holds = h.stepping.holds;
              queue = h.stepping.queue;
              searching = searching;
              is_taken = h.stepping.is_taken;
              fresh = λ x o e l is. omega (arith, h.stepping.fresh x o e l is);
            };
        noted = noted;
      }

  -- or the new list stands there
  pub may_queue : Roomy n words → Judged h false → MayQueue n words to cost steps
  may_queue roomy (new_comes not_taken improves comes) =
      record { roomy = roomy; queue = h.stepping.queue; there = h.there; sooner = comes }

  module _ {after : List ℕ} (now : QueuedNow n to cost steps step words after) where
    pub relaxed_zeros : Judged h false → Zeros n words after
    relaxed_zeros (new_comes not_taken improves comes) = record { stay = λ s l z. go s l z (ℕ_discrete s to) here }
      where
        go :
            (s : ℕ)
            → s < n
            → get_or words s 0 ≡ 0
            → Dec (s ≡ to)
            → Stands (length h.t.initial) n h.stepping.status words to (h.stepping.status (new_state h))
            → get_or after s 0 ≡ 0
        go s l z (no q) w = now.elsewhere.costs s l q ∙ z
        go s l z (yes q) (is_unreached is w) = let zero : get_or words to 0 ≡ 0 = rw q at z in absurd (omega arith)
        go s l z (yes q) (is_queued r e is w m f x y) = let zero : get_or words to 0 ≡ 0 = rw q at z in absurd (omega arith)
        go s l z (yes q) (is_taken r e is w) = absurd (not_taken r e is)

    pub relaxed_new :
        {r : List (Option Bool)}
        → Judged h false
        → Noted (length h.t.initial) n h.stepping.status h.p r
        → Noting h.t n after r (left_state h) (h.k + 1) h.p h.c
    relaxed_new (new_comes not_taken improves comes) noted =
        record {
          stepping =
              record {
                status = update h.stepping.status to (queued (new_list h) (new_cost h));
                holds = holds_changed v h.ground.states h.there change none now.elsewhere h.stepping.holds says;
                queue = now.queue;
                searching =
                    queues h.t h.ground.passes h.stepping.searching place h.p h.c h.stepping.is_taken h.applies not_taken
                    improves (rw h.target at change);
                is_taken = still h.from h.p h.c h.from_state h.stepping.is_taken;
                fresh = λ x o e l is. fresh x o e l is (ℕ_discrete x to);
              };
          noted = record { room = noted.room; told = λ b q d r l e is alike. noted.told b q d r l e (was b q d l is (ℕ_discrete b to)) alike };
        }
      where
        v : ℕ
        v = length h.t.initial

        after-status : List ℕ → Status
        after-status = update h.stepping.status to (queued (new_list h) (new_cost h))

        change :
            Changed (length h.t.initial) h.stepping.status
            (update h.stepping.status to (queued (new_list h) (new_cost h)))
            (state_of (length h.t.initial) to)
            (queued (new_list h) (new_cost h))
        change = updated v h.ground.states h.stepping.status to (queued (new_list h) (new_cost h)) h.there

        none : (p : List ℕ) (c : ℕ) → h.stepping.status (state_of (length h.t.initial) to) ≡ taken p c → ⊥
        none p c e = not_taken p c (rw h.target at e)

        still :
            (a : ℕ) (p : List ℕ) (c : ℕ)
            → a < n
            → h.stepping.status (state_of (length h.t.initial) a) ≡ taken p c
            → after-status (state_of (length h.t.initial) a) ≡ taken p c
        still = still_taken v h.ground.states h.there change none now.elsewhere

        was :
            (b : ℕ) (q : List ℕ) (d : ℕ)
            → b < n
            → update h.stepping.status to (queued (new_list h) (new_cost h)) (state_of (length h.t.initial) b) ≡ taken q d
            → Dec (b ≡ to)
            → h.stepping.status (state_of (length h.t.initial) b) ≡ taken q d
        was b q d l is (yes e) = absurd (let f = change.here in let g = rw e at is in let z : ◌≡◌ {A = ℕ} 0 1 = cc in omega arith)
        was b q d l is (no e) =
            sym
            (change.elsewhere (state_of (length h.t.initial) b) (state_bits (length h.t.initial) b)
            (other_state (length h.t.initial) h.ground.states to b h.there l e))
            ∙ is

        fresh :
            (x o e : ℕ)
            → x < n
            → update h.stepping.status to (queued (new_list h) (new_cost h)) (state_of (length h.t.initial) x) ≡ queued (h.p ++ (o ∷ [])) e
            → Dec (x ≡ to)
            → o < h.k + 1
        fresh x o e l is (yes q) =
            let one = (has_one (waits change.here) (waits (rw q at is))).0 in
            omega (arith, last_same h.p one)
        fresh x o e l is (no q) =
            let was =
            sym
            (change.elsewhere (state_of (length h.t.initial) x) (state_bits (length h.t.initial) x)
            (other_state (length h.t.initial) h.ground.states to x h.there l q))
            ∙ is in
            omega (arith, h.stepping.fresh x o e l was)

        says : Says (length h.t.initial) n after-status after to (queued (new_list h) (new_cost h))
        says =
            says_queued {p = new_list h} (now.cost_now ∙ h.costs) (now.steps_now ∙ sym new_length)
            (by_step h.from h.k h.p h.c h.from_state h.number (still h.from h.p h.c h.from_state h.stepping.is_taken)
            (now.step_now ∙ h.last) refl)
            (omega (arith, bounded.0, h.costs))
            (omega (arith, bounded.1, new_length))

-- Laws of the call: each way out gives what the call's definition gives. Assumes nothing.
use Prim.Native.Nat.{ℕ, zero, suc, ◌+◌, ◌-◌, ◌^◌, ◌≤◌, ◌<◌}
use native.Mathlib.Nat.{one-le-pow}
use native.Mathlib.Omega.{arith}
use native.Mathlib.Decide.{dec_lt}
use mathlib.Core.Path.{◌≡◌, refl, sym, ap, ◌∙◌}
use mathlib.Core.Bool.{Bool, true, false, cond}
use mathlib.Core.List.{List, [], ◌++◌}
use lib.Dec.{leb}
use lib.ListN.{length, get_or, take, replicate, length-append, length-replicate, get_or-replicate, get_or-append}
use lib.Seq.{ext_get_or, get_or-append-add}
use borrow.Author.Tests.{le-leb, lt-leb}
use Rattle.std.specs.Prelude.{Option, Result, Ok, Err}
use Rattle.std.specs.Result.{IsErrAnd}
use Rattle.task.specs.declared.refusal.Refusal.{Refusal}
use Rattle.task.specs.Refused.{number_of}
use Rattle.task.specs.Table.{Lent, Task, task_of}
use Rattle.task.specs.Words.{padded}
use Rattle.stepper.specs.Stepped.{cleared}
use Rattle.state_queue.specs.Inner.Queue.{Roomy}
use Rattle.cheapest_plan.specs.declared.CheapestPlan.{CheapestPlan}
use Rattle.cheapest_plan.specs.Cheapest.{Pick, no_plan, plan_of, cheapest}
use Rattle.cheapest_plan.specs.Planned.{search_refusal, CheapestOutcome, plan_answered, plan_refused, plan_written, plan_told, Planned, planned_by, planned, PlanGives}
use Rattle.cheapest_plan.specs.Inner.States.{Bits, code}
use Rattle.cheapest_plan.specs.Inner.Tables.{Ground}
use Rattle.cheapest_plan.specs.Inner.Visits.{Searchable, SearchEnd, FirstEnd, EndReady, EndFound, Writable, Writes}
use Rattle.cheapest_plan.specs.Inner.Plans.{PlanReady, BestEnd, PlanTold, TellReady, PlanFound}
use Rattle.cheapest_plan.proofs.States.{code_below, state_of_code}
use Rattle.cheapest_plan.proofs.Visiting.{QueuedAt, queued_at, IsQueued, waiting_at, least-key}
use Rattle.cheapest_plan.proofs.Refusing.{few_states, search_ready}

-- a search begins
module _ {l : Lent} {scratch words : List ℕ} (v : PlanReady l scratch words) {n : ℕ} (states : n ≡ 2 ^ l.head.variables) where
  unfoldable pub ground : Ground v.t n
  ground =
      record {
        passes = v.passes;
        states = states ∙ ap (λ (k : ℕ). 2 ^ k) (sym v.tables.variables);
        few = omega (arith, states, few_states v.few);
        cheap = v.cheap;
      }

  pub search_roomy : Roomy n words
  search_roomy =
      record {
        some = omega (arith, states, one-le-pow l.head.variables 2 (omega arith));
        limit = omega (arith, states, few_states v.few);
        room = omega (arith, states, v.words_room);
      }

  -- the initial state and its code
  module _ {first : List ℕ} (is : first ≡ take l.head.variables l.initial) where
    pub start_bits : Bits (length first) first
    start_bits = record { size = refl; bits = rw (is ∙ sym v.starts) v.passes.initial_bits }

    pub start_there : length first ≡ l.head.variables
    start_there = ap length (is ∙ sym v.starts) ∙ v.tables.variables

    unfoldable pub searchable : {start : ℕ} → start ≡ code first → Searchable l n start
    searchable {start} e =
        record {
          t = v.t;
          tables = v.tables;
          ground = ground;
          there = rw (e, states, ← start_there) (code_below (length first) first start_bits);
          initial = v.starts ∙ sym is ∙ sym (state_of_code (length first) first start_bits) ∙ rw (start_there, e) refl;
        }

    pub searched : {start : ℕ} (r : Option ℕ) (after : List ℕ) (is' : start ≡ code first) → SearchEnd (searchable is').t n after r → SearchEnd v.t n after r
    unfolding searchable
    searched r after is' end = end

-- the search found an end
module _
    {l : Lent} {scratch words : List ℕ} (v : PlanReady l scratch words) {n : ℕ} (states : n ≡ 2 ^ l.head.variables)
    {after : List ℕ} (roomy : Roomy n after) {r : ℕ} (end_here : FirstEnd v.t n after r)
  where
    pub end_queued : IsQueued end_here.known.holds r
    end_queued = waiting_at end_here.known.holds r end_here.below end_here.waiting

    unfoldable pub end_ready : EndReady l n r after
    end_ready =
        record {
          t = v.t;
          variables = v.tables.variables;
          formulas = v.tables.formulas;
          goal = v.tables.goal;
          ground = ground v states;
          status = end_here.known.status;
          last = end_here.known.last;
          holds = end_here.known.holds;
          searching = end_here.known.searching;
          there = end_here.below;
          p = end_queued.p;
          c = end_queued.c;
          is = end_queued.is;
          ends = end_here.goal;
          least =
              least-key end_here.known.holds (ground v states).states end_here.known.queue roomy.some r end_here.first
              end_queued.p end_queued.c end_queued.at;
        }

    pub end_found : {best : ℕ} → best < n → EndFound end_ready.t n best after → BestEnd v.t n after best
    unfolding end_ready
    end_found below found = record { below = below; found = found }

-- what is told of a plan
module _ {n end : ℕ} {words plan : List ℕ} (v : TellReady n end words plan) where
  pub end_at : QueuedAt (length v.t.initial) n v.found.status words end v.found.p v.found.c
  end_at = queued_at v.found.holds end v.there v.found.p v.found.c v.found.is

  -- it is longer than the buffer
  pub tell_long :
      length plan < get_or words (n + end) 0
      → PlanTold (plan_of v.found.p v.found.c) plan (record { refusal = 23; steps = 0; cost = 0 }) plan
  unfolding plan_told plan_refused
  tell_long h =
      let long : length plan < length v.found.p = omega (arith, end_at.steps) in
      record {
        answer = sym (rw (lt-leb (length v.found.p) (length plan) long) refl);
        plan = v.clear ∙ sym (rw (lt-leb (length v.found.p) (length plan) long) refl);
      }

  unfoldable pub writable : Writable n words end (get_or words (n + end) 0)
  writable =
      record {
        v = length v.t.initial;
        status = v.found.status;
        holds = v.found.holds;
        there = v.there;
        p = v.found.p;
        size = sym end_at.steps;
        ends = end_at.ends;
      }

  -- it is written
  module _
      (fits : get_or words (n + end) 0 ≤ length plan)
      {after : List ℕ} (long : length after ≡ length plan) (writes : Writes n words end (get_or words (n + end) 0) plan after)
    where
      written : after ≡ padded (length plan) v.found.p
      unfolding padded writable
      written =
          ext_get_or 0 after (v.found.p ++ replicate (length plan - length v.found.p) 0)
          (omega (
            arith,
            long,
            end_at.steps,
            length-append v.found.p (replicate (length plan - length v.found.p) 0),
            length-replicate {A = ℕ} (length plan - length v.found.p) 0,
          ))
          (λ i l. go i l (dec_lt i (length v.found.p)))
        where
          go :
              (i : ℕ)
              → i < length after
              → Dec (i < length v.found.p)
              → get_or after i 0 ≡ get_or (v.found.p ++ replicate (length plan - length v.found.p) 0) i 0
          go i l (yes m) =
              writes.front writable i (omega (arith, end_at.steps))
              ∙ sym (get_or-append v.found.p (replicate (length plan - length v.found.p) 0) 0 i m)
          go i l (no m) =
              let k : i ≡ length v.found.p + (i - length v.found.p) = omega arith in
              writes.behind i (omega (arith, end_at.steps))
              ∙ ap (λ (x : List ℕ). get_or x i 0) v.clear
              ∙ get_or-replicate (length plan) i 0 0 (omega arith)
              ∙ sym (get_or-replicate (length plan - length v.found.p) (i - length v.found.p) 0 0 (omega arith))
              ∙ sym (get_or-append-add v.found.p (replicate (length plan - length v.found.p) 0) (i - length v.found.p) 0)
              ∙ ap (λ (x : ℕ). get_or (v.found.p ++ replicate (length plan - length v.found.p) 0) x 0) (sym k)

      pub tell-written :
          PlanTold (plan_of v.found.p v.found.c) plan
          (record { refusal = 0; steps = get_or words (n + end) 0; cost = get_or words end 0 - 1 })
          after
      unfolding plan_told plan_written
      tell-written =
          let short : length v.found.p ≤ length plan = omega (arith, end_at.steps) in
          let cost : get_or words end 0 - 1 ≡ v.found.c = omega (arith, end_at.word) in
          record {
            answer = rw (le-leb (length v.found.p) (length plan) short, end_at.steps, cost) refl;
            plan = written ∙ sym (rw (le-leb (length v.found.p) (length plan) short) refl);
          }

-- the way from the best end
module _ {t : Task} {n : ℕ} {words : List ℕ} {r : ℕ} (end : BestEnd t n words r) {plan : List ℕ} (clear : plan ≡ cleared plan) where
  unfoldable pub tell_ready : TellReady n r words plan
  tell_ready = record { t = t; there = end.below; found = end.found; clear = clear }

  pub told_found :
      {answer : CheapestOutcome} {after : List ℕ}
      → PlanTold (plan_of tell_ready.found.p tell_ready.found.c) plan answer after
      → PlanTold (cheapest t) plan answer after
  unfolding tell_ready
  told_found x = rw end.found.best x

-- what is told does not hang on the scratches, nor on what stood in the buffer
module _ (before plan scratch words : List ℕ) (size : length before ≡ length plan) where
  same_answer : (pick : Pick) → (plan_told pick before [] []).answer ≡ (plan_told pick plan scratch words).answer
  unfolding plan_told plan_refused plan_written
  same_answer no_plan = refl
  same_answer (plan_of p c) =
      ap (λ (k : ℕ). (cond (leb (length p) k) (plan_written p c before [] []) (plan_refused 23 before [] [])).answer) size
      ∙ go (leb (length p) (length plan))
    where
      go :
          (b : Bool)
          → (cond b (plan_written p c before [] []) (plan_refused 23 before [] [])).answer
          ≡ (cond b (plan_written p c plan scratch words) (plan_refused 23 plan scratch words)).answer
      go true = refl
      go false = refl

  same_plan : (pick : Pick) → (plan_told pick before [] []).plan ≡ (plan_told pick plan scratch words).plan
  unfolding plan_told plan_refused plan_written
  same_plan no_plan = ap (λ (k : ℕ). replicate k 0) size
  same_plan (plan_of p c) =
      ap (λ (k : ℕ). (cond (leb (length p) k) (plan_written p c before [] []) (plan_refused 23 before [] [])).plan) size
      ∙ go (leb (length p) (length plan))
    where
      go :
          (b : Bool)
          → (cond b (plan_written p c before [] []) (plan_refused 23 before [] [])).plan
          ≡ (cond b (plan_written p c plan scratch words) (plan_refused 23 plan scratch words)).plan
      go true = ap (λ (k : ℕ). padded k p) size
      go false = ap (λ (k : ℕ). replicate k 0) size

  both_cleared :
      (pick : Pick) → ((plan_told pick plan scratch words).scratch ≡ cleared scratch) × ((plan_told pick plan scratch words).words ≡ cleared words)
  unfolding plan_told plan_refused plan_written
  both_cleared no_plan = (refl, refl)
  both_cleared (plan_of p c) = go (leb (length p) (length plan))
    where
      go :
          (b : Bool)
          → ((cond b (plan_written p c plan scratch words) (plan_refused 23 plan scratch words)).scratch ≡ cleared scratch)
          × ((cond b (plan_written p c plan scratch words) (plan_refused 23 plan scratch words)).words ≡ cleared words)
      go true = (refl, refl)
      go false = (refl, refl)

-- a refusal that `?` returns onward
pub answered_err : (r : Result CheapestPlan Refusal) (e : Refusal) → IsErrAnd r (λ x. x ≡ e) → plan_answered r ≡ record { refusal = number_of e; steps = 0; cost = 0 }
answered_err (Ok p) e given = absurd given
answered_err (Err x) e given = rw given refl

-- the ways out of `find_plan`
module _ (l : Lent) (plan scratch words : List ℕ) where
  module _ (clear : plan ≡ cleared plan) where
    pub plan_refuses :
        {number : ℕ}
        → number ≡ search_refusal l scratch words
        → (number ≡ 0 → ⊥)
        → {r : CheapestOutcome}
        → r ≡ record { refusal = number; steps = 0; cost = 0 }
        → PlanFound (planned l plan scratch words) r plan
    unfolding planned planned_by plan_refused
    plan_refuses {number} asked d {r} e = rw (← asked) (go number d e)
      where
        go : (n : ℕ) → (n ≡ 0 → ⊥) → r ≡ record { refusal = n; steps = 0; cost = 0 } → PlanFound (planned_by n l plan scratch words) r plan
        go zero d e = absurd (d refl)
        go (suc n) d e = record { answer = e; plan = clear }

    pub plan_none :
        search_refusal l scratch words ≡ 0
        → cheapest (task_of l) ≡ no_plan
        → {r : CheapestOutcome}
        → r ≡ record { refusal = 22; steps = 0; cost = 0 }
        → PlanFound (planned l plan scratch words) r plan
    unfolding planned planned_by plan_told plan_refused
    plan_none passed none e = rw (passed, none) (record { answer = e; plan = clear })

  pub plan_gives :
      search_refusal l scratch words ≡ 0
      → {r : CheapestOutcome} {numbers : List ℕ}
      → PlanTold (cheapest (task_of l)) plan r numbers
      → PlanFound (planned l plan scratch words) r numbers
  unfolding planned planned_by
  plan_gives passed told =
      rw passed
      (record {
        answer = told.answer ∙ same_answer plan plan scratch words refl (cheapest (task_of l));
        plan = told.plan ∙ same_plan plan plan scratch words refl (cheapest (task_of l));
      })

-- what the call leaves in scratch, and that its outcome does not hang on what stood in the buffer
module _ (l : Lent) (plan scratch words : List ℕ) where
  scratch_cleared : ((planned l plan scratch words).scratch ≡ cleared scratch) × ((planned l plan scratch words).words ≡ cleared words)
  unfolding planned planned_by plan_refused
  scratch_cleared = go (search_refusal l scratch words)
    where
      go :
          (n : ℕ)
          → ((planned_by n l plan scratch words).scratch ≡ cleared scratch) × ((planned_by n l plan scratch words).words ≡ cleared words)
      go zero = both_cleared plan plan scratch words refl (cheapest (task_of l))
      go (suc n) = (refl, refl)

  planned_same : (before : List ℕ) → length before ≡ length plan → planned l before scratch words ≡ planned l plan scratch words
  unfolding planned planned_by plan_told plan_refused plan_written
  planned_same before size = go (search_refusal l scratch words) (cheapest (task_of l))
    where
      told : (pick : Pick) → plan_told pick before scratch words ≡ plan_told pick plan scratch words
      told no_plan = rw size refl
      told (plan_of p c) = rw size refl

      go : (n : ℕ) (pick : Pick) → planned_by n l before scratch words ≡ planned_by n l plan scratch words
      go zero pick = told (cheapest (task_of l))
      go (suc n) pick = rw size refl

  pub cheapest_gives :
      {before numbers rest tables : List ℕ} {r : CheapestOutcome}
      → before ≡ cleared plan
      → PlanFound (planned l before scratch words) r numbers
      → rest ≡ cleared scratch
      → tables ≡ cleared words
      → PlanGives (planned l plan scratch words) r numbers rest tables
  cheapest_gives {before} clear found b c =
      let same = planned_same before (ap length clear ∙ length-replicate {A = ℕ} (length plan) 0) in
      record {
        answer = found.answer ∙ ap (λ (w : Planned). w.answer) same;
        plan = found.plan ∙ ap (λ (w : Planned). w.plan) same;
        scratch = b ∙ sym scratch_cleared.0;
        words = c ∙ sym scratch_cleared.1;
      }

  -- the same told of `planned` itself: for the tactics, which take an equation whose left side shows all of a call
  pub planned_clear : planned l plan scratch words ≡ planned l (replicate (length plan) 0) scratch words
  planned_clear = sym (planned_same (replicate (length plan) 0) (length-replicate {A = ℕ} (length plan) 0))

  pub planned_scratch : (planned l plan scratch words).scratch ≡ replicate (length scratch) 0
  planned_scratch = scratch_cleared.0

  pub planned_words : (planned l plan scratch words).words ≡ replicate (length words) 0
  planned_words = scratch_cleared.1

-- a list that was cleared behind a call is clear as before it
pub clear_behind : {rest : List ℕ} (mid l : List ℕ) → rest ≡ cleared mid → length mid ≡ length l → rest ≡ cleared l
clear_behind mid l e size = e ∙ ap (λ (k : ℕ). replicate k 0) size

-- the search of the task that is lent
pub ready_none :
    (l : Lent) (words16 : (i : ℕ) → get_or l.operators i 0 < 65536) (scratch words : List ℕ) (passed : search_refusal l scratch words ≡ 0)
    → cheapest (search_ready l words16 scratch words passed).t ≡ no_plan
    → cheapest (task_of l) ≡ no_plan
unfolding search_ready
ready_none l words16 scratch words passed none = none

pub ready_told :
    (l : Lent) (words16 : (i : ℕ) → get_or l.operators i 0 < 65536) (scratch words : List ℕ) (passed : search_refusal l scratch words ≡ 0)
    → {before after : List ℕ} {r : CheapestOutcome}
    → PlanTold (cheapest (search_ready l words16 scratch words passed).t) before r after
    → PlanTold (cheapest (task_of l)) before r after
unfolding search_ready
ready_told l words16 scratch words passed told = told

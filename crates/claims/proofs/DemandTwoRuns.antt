-- Demand 2, of steps and runs: the program's are 002's and the plain run's.
use Prim.Native.Nat.{ℕ, zero, suc, ◌+◌, ◌≤◌, ◌<◌}
use native.Mathlib.Nat.{zero-add}
use native.Mathlib.Omega.{arith}
use mathlib.Core.Path.{◌≡◌, refl, sym, ap, ◌∙◌}
use mathlib.Core.Bool.{Bool, true, false}
use mathlib.Core.Logic.{◌↔◌, ⊎_elim}
use mathlib.Core.List.{List, [], ◌∷◌, ◌++◌}
use lib.ListN.{length, get_or, take}
use lib.Seq.{take-length, take-append_seam}
use borrow.Author.Tests.{lt-ltb, le-ltb}
use Rattle.task.specs.Table.{Lent, Task, task_of}
use Rattle.task.specs.Semantics.{apply}
use Rattle.task.specs.Run.{operator_of, effect_of_operator, goal_holds, applicable, charge, Progress, after_step, Stop, ended, stopped, Run, answer, run_on, plain_run, is_plan}
use Rattle.task.proofs.Runs.{Does, none, more, Follows, charged, steps_done, ended_run, stopped_run, goal_told, each_follows, one_more, plan_exactly_if as plan-by-stop, length_after, becomes_one, becomes_zero, keeps}
use Rattle.file_format.specs.Reading.{accepted, reading}
use Rattle.task.specs.Words.{padded}
use Rattle.plan.specs.Outcome.{Ended, Refused, early_refusal, run_refusal, cleared, step_refused, run_refused, step_told, end_of, run_answer, run_told, step_by, stepped, run_by, ran}
use Rattle.entry_tables.specs.Own.{own}
use Rattle.layouts.specs.Layout.{low_bytes, numbers_of, run_number, flag, run_bytes}
use Rattle.layouts.proofs.RunBytes.{plan_byte}
use Rattle.run_entry.specs.Entry.{run_given, run_entry_by, run_entry}
use Rattle.claims.specs.Told.{costs, goal_true, ChangedBy, StepTold, Done, StoppedAt, StopTold}

-- Unless a row before the last of the table of refusals refuses the call, the run gives exactly the plain run's answers and leaves exactly its
-- state; scratch ends as 0.
pub run_is_the_plain_run :
    (l : Lent) (s numbers scratch : List ℕ)
    → run_refusal l s numbers scratch ≡ 0
    → let r = plain_run (task_of l) s numbers in
    ran l s numbers scratch ≡ record { answer = run_answer r; state = r.state; scratch = cleared scratch }
unfolding ran run_by run_told
run_is_the_plain_run l s numbers scratch e = rw e

-- Refused, it leaves the state as it was, and tells of nothing but its number: 0 steps, cost 0, no goal.
pub refused_run_changes_nothing :
    (l : Lent) (s numbers scratch : List ℕ) (n : ℕ)
    → run_refusal l s numbers scratch ≡ suc n
    → ran l s numbers scratch
    ≡ record {
      answer = record { steps = 0; cost = 0; goal = false; end = Refused (suc n) };
      state = s;
      scratch = cleared scratch;
    }
unfolding ran run_by run_refused
refused_run_changes_nothing l s numbers scratch n e = rw e

-- The empty run leaves all as it is: no step, no cost, the goal of the state that it was given.
pub empty_run :
    (l : Lent) (s scratch : List ℕ)
    → run_refusal l s [] scratch ≡ 0
    → let goal = goal_holds (task_of l) s in
    ran l s [] scratch
    ≡ record {
      answer = record { steps = 0; cost = 0; goal = goal; end = Ended goal };
      state = s;
      scratch = cleared scratch;
    }
unfolding ran run_by run_told run_answer end_of plain_run run_on answer
empty_run l s scratch e = rw e

-- A step that is refused before its operator is looked at changes nothing either.
pub refused_step_changes_nothing :
    (l : Lent) (s : List ℕ) (o : ℕ) (scratch : List ℕ) (n : ℕ)
    → early_refusal l s scratch ≡ suc n
    → stepped l s o scratch ≡ step_refused (suc n) s scratch
unfolding stepped step_by
refused_step_changes_nothing l s o scratch n e = rw e

-- A step by 002: where nothing before its operator refuses it ..
module _ (l : Lent) (s : List ℕ) (o : ℕ) (scratch : List ℕ) (early : early_refusal l s scratch ≡ 0) where
  -- .. an applicable operator is carried out: all variables change at once, and its cost is charged;
  pub step_is_applied :
      o < length (task_of l).operators
      → applicable (task_of l) s o ≡ true
      → let after = apply s (effect_of_operator (task_of l) o) in
      stepped l s o scratch
      ≡ record {
        answer = record { refusal = 0; steps = 1; cost = charge (task_of l) s o; goal = goal_holds (task_of l) after };
        state = after;
        scratch = cleared scratch;
      }
  unfolding stepped step_by step_told plain_run run_on answer after_step
  step_is_applied below may =
      rw (early, lt-ltb o (length (task_of l).operators) below, may, zero-add (charge (task_of l) s o))

  -- .. a number not below O gives 17, and one that is not applicable 18; the state stays.
  pub step_outside : length (task_of l).operators ≤ o → stepped l s o scratch ≡ step_refused 17 s scratch
  unfolding stepped step_by step_told plain_run run_on answer
  step_outside past = rw (early, le-ltb o (length (task_of l).operators) past)

  pub step_not_applicable :
      o < length (task_of l).operators
      → applicable (task_of l) s o ≡ false
      → stepped l s o scratch ≡ step_refused 18 s scratch
  unfolding stepped step_by step_told plain_run run_on answer
  step_not_applicable below not = rw (early, lt-ltb o (length (task_of l).operators) below, not)

-- The plain run, in the scope's own words: each claim is about every task, state and list of numbers.
costs_done : {t : Task} {p q : Progress} {front : List ℕ} → Does t p front q → q.cost ≡ p.cost + costs t front
unfolding after_step costs
costs_done none = omega arith
costs_done {t} {p} (more {o = o} below e d) = omega (arith, costs_done d, charged t p.state o)

-- A run that is not stopped did every number, and its cost is the sum of the operators' charges.
pub unstopped_run_does_all :
    (t : Task) (s numbers : List ℕ) → (plain_run t s numbers).stop ≡ ended → (plain_run t s numbers).steps ≡ length numbers
unfolding answer
unstopped_run_does_all t s numbers e =
    let w = ended_run t s numbers e in
    rw w.answers (omega (arith, steps_done w.done))

pub cost_is_the_sum :
    (t : Task) (s numbers : List ℕ) → (plain_run t s numbers).stop ≡ ended → (plain_run t s numbers).cost ≡ costs t numbers
unfolding answer
cost_is_the_sum t s numbers e =
    let w = ended_run t s numbers e in
    rw w.answers (omega (arith, costs_done w.done))

-- Each of its numbers was below O, with a true precondition in the state that those in front of it left ..
pub each_number_was_done :
    (t : Task) (s front : List ℕ) (o : ℕ) (rest : List ℕ)
    → (plain_run t s (front ++ (o ∷ rest))).stop ≡ ended
    → Done t s front o
unfolding answer
each_number_was_done t s front o rest e =
    let f = each_follows t s front o rest e in
    record {
      unstopped = ap (λ (r : Run). r.stop) f.before.answers;
      below = f.below;
      precondition = rw f.before.answers f.permitted;
    }

-- .. and such a number, behind the others, is done: the run is not stopped there, and all variables change at once.
changed_by : (t : Task) (s : List ℕ) (o : ℕ) → ChangedBy t o s (apply s (effect_of_operator t o))
unfolding effect_of_operator operator_of
changed_by t s o =
    let e = effect_of_operator t o in
    record {
      same_length = length_after s e;
      set = becomes_one s e;
      cleared = becomes_zero s e;
      kept = keeps s e;
    }

pub number_behind_is_done :
    (t : Task) (s front : List ℕ) (o : ℕ)
    → Done t s front o
    → let r = plain_run t s (front ++ (o ∷ [])) in
    (r.stop ≡ ended) × ChangedBy t o (plain_run t s front).state r.state
unfolding answer after_step
number_behind_is_done t s front o d =
    let w = ended_run t s front d.unstopped in
    let f : Follows t s front o = record { before = w; below = d.below; permitted = rw w.answers at d.precondition } in
    rw (one_more t s front o f, w.answers) (refl, changed_by t w.at.state o)

-- The empty run does nothing.
pub empty_run_stays : (t : Task) (s : List ℕ) → ((plain_run t s []).stop ≡ ended) × ((plain_run t s []).state ≡ s)
unfolding plain_run run_on answer
empty_run_stays t s = (refl, refl)

-- A run that is stopped did the numbers in front of the one that stopped it, and that one is not below O or has a false precondition.
pub stopped_where :
    (t : Task) (s numbers : List ℕ) (n : ℕ) → (plain_run t s numbers).stop ≡ stopped n → StoppedAt t s numbers n
unfolding answer
stopped_where t s numbers n e =
    let h = stopped_run t s numbers e in
    let w = h.stops in
    record {
      front = w.front;
      next = w.next;
      rest = w.rest;
      split = w.split;
      unstopped = ap (λ (r : Run). r.stop) h.alone;
      state = ap (λ (r : Run). r.state) h.answers ∙ sym (ap (λ (r : Run). r.state) h.alone);
      steps = ap (λ (r : Run). r.steps) h.answers ∙ sym (ap (λ (r : Run). r.steps) h.alone);
      cost = ap (λ (r : Run). r.cost) h.answers ∙ sym (ap (λ (r : Run). r.cost) h.alone);
      counted = rw h.answers (omega (arith, steps_done w.done));
      reason = rw h.answers w.reason;
    }

-- Stopped or not, the cost counts every step done and no other.
pub cost_counts_steps_done :
    (t : Task) (s numbers : List ℕ)
    → (plain_run t s numbers).cost ≡ costs t (take (plain_run t s numbers).steps numbers)
cost_counts_steps_done t s numbers = go (plain_run t s numbers).stop refl
  where
    go :
        (q : Stop)
        → (plain_run t s numbers).stop ≡ q
        → (plain_run t s numbers).cost ≡ costs t (take (plain_run t s numbers).steps numbers)
    go ended e = rw (unstopped_run_does_all t s numbers e, take-length numbers) (cost_is_the_sum t s numbers e)
    go (stopped n) e =
        let w = stopped_where t s numbers n e in
        let front : take (length w.front) numbers ≡ w.front =
        ap (take (length w.front)) w.split ∙ take-append_seam w.front (w.next ∷ w.rest)
        in
        rw (w.counted, front) (w.cost ∙ cost_is_the_sum t s w.front w.unstopped)

-- A plan is an unstopped run that ends with the goal true.
pub plan_exactly_if :
    (t : Task) (s numbers : List ℕ)
    → let r = plain_run t s numbers in
    is_plan r ≡ true
    ↔ (r.stop ≡ ended) × (goal_true t r.state ≡ true)
plan_exactly_if t s numbers =
    let law = plan-by-stop (plain_run t s numbers) in
    let goal = goal_told t s numbers in
    (λ e. ((law.0 e).0, sym goal ∙ (law.0 e).1), λ p. law.1 (p.0, goal ∙ p.1))

pub stopped_run_is_no_plan :
    (t : Task) (s numbers : List ℕ) (n : ℕ)
    → (plain_run t s numbers).stop ≡ stopped n
    → is_plan (plain_run t s numbers) ≡ false
stopped_run_is_no_plan t s numbers n e = go (is_plan (plain_run t s numbers)) refl
  where
    go : (b : Bool) → is_plan (plain_run t s numbers) ≡ b → is_plan (plain_run t s numbers) ≡ false
    go false p = p
    go true p =
        let q = ((plan_exactly_if t s numbers).0 p).0 in
        let z : ◌≡◌ {A = ℕ} 0 1 = cc in
        absurd (omega arith)

-- The same in the bytes that cross to C: byte 13 of a run's result is 1 exactly if the run is a plan, and 0 after a stop.
flag_one : (b : Bool) → flag b ≡ 1 → b ≡ true
unfolding flag
flag_one true e = refl
flag_one false e = absurd (omega arith)

pub plan_byte_exactly_if :
    (t : Task) (s numbers : List ℕ)
    → let r = plain_run t s numbers in
    get_or (run_bytes r) 13 0 ≡ 1
    ↔ (r.stop ≡ ended) × (goal_true t r.state ≡ true)
unfolding flag
plan_byte_exactly_if t s numbers =
    let r = plain_run t s numbers in (
      λ e. (plan_exactly_if t s numbers).0 (flag_one (is_plan r) (sym (plan_byte r) ∙ e)),
      λ p. plan_byte r ∙ rw ((plan_exactly_if t s numbers).1 p),
    )

pub plan_byte_after_a_stop :
    (t : Task) (s numbers : List ℕ) (n : ℕ)
    → (plain_run t s numbers).stop ≡ stopped n
    → get_or (run_bytes (plain_run t s numbers)) 13 0 ≡ 0
unfolding flag
plan_byte_after_a_stop t s numbers n e =
    plan_byte (plain_run t s numbers) ∙ rw (stopped_run_is_no_plan t s numbers n e)

-- .. and so of `pnf_run`, where nothing refuses it.
pub entry_tells_a_plan_exactly_if :
    (file state sequence : List ℕ) (r : ℕ) (t : Task)
    → reading own file ≡ accepted t
    → run_number (length t.initial) state sequence r ≡ 0
    → let w = run_entry file state sequence r in
    get_or w.result 13 0 ≡ 1
    ↔ ((plain_run t state (numbers_of sequence)).stop ≡ ended) × (goal_true t w.state ≡ true)
unfolding run_entry run_entry_by run_given padded run_bytes low_bytes
entry_tells_a_plan_exactly_if file state sequence r t read free =
    rw (read, free) (plan_byte_exactly_if t state (numbers_of sequence))

-- The call of a run, where nothing refuses it.
ended_by : (q : Stop) (steps : ℕ) (goal g : Bool) → end_of q steps goal ≡ Ended g → (q ≡ ended) × (goal ≡ g)
unfolding end_of
ended_by ended steps goal g e = (refl, cc)
ended_by (stopped n) steps goal g e =
    let z : ◌≡◌ {A = ℕ} 0 1 = cc in
    absurd (omega arith)

module _ (l : Lent) (s numbers scratch : List ℕ) (free : run_refusal l s numbers scratch ≡ 0) where
  -- Its cost is that of the steps it tells.
  pub call_cost_is_the_sum :
      let w = ran l s numbers scratch in
      w.answer.cost ≡ costs (task_of l) (take w.answer.steps numbers)
  unfolding run_answer
  call_cost_is_the_sum = rw (run_is_the_plain_run l s numbers scratch free) (cost_counts_steps_done (task_of l) s numbers)

  -- Whether the goal holds is told of the state that it leaves, after an end and after a stop alike.
  pub goal_is_told :
      let w = ran l s numbers scratch in
      w.answer.goal ≡ goal_true (task_of l) w.state
  unfolding run_answer
  goal_is_told = rw (run_is_the_plain_run l s numbers scratch free) (goal_told (task_of l) s numbers)

  -- A run that is not stopped tells an end, with whether the goal holds in the state that the call leaves.
  pub end_is_told :
      (plain_run (task_of l) s numbers).stop ≡ ended
      → let w = ran l s numbers scratch in
      w.answer.end ≡ Ended (goal_true (task_of l) w.state)
  unfolding run_answer end_of
  end_is_told e = rw (run_is_the_plain_run l s numbers scratch free) (rw (e, goal_told (task_of l) s numbers))

  -- An end with the goal flag: all numbers were done, for the sum of their costs, and the flag is the goal in the state that the call leaves.
  pub ended_call :
      (g : Bool)
      → let w = ran l s numbers scratch in
      w.answer.end ≡ Ended g
      → (w.answer.steps ≡ length numbers)
      × (w.answer.cost ≡ costs (task_of l) numbers)
      × (g ≡ goal_true (task_of l) w.state)
  unfolding run_answer
  ended_call g =
      let t = task_of l in
      let r = plain_run t s numbers in
      rw (run_is_the_plain_run l s numbers scratch free)
      (λ e.
      let q = ended_by r.stop r.steps r.goal g e in
      (unstopped_run_does_all t s numbers q.0, cost_is_the_sum t s numbers q.0, sym q.1 ∙ goal_told t s numbers))

  -- A stop tells its number and the steps done before it.
  pub stop_is_told :
      (n : ℕ)
      → (plain_run (task_of l) s numbers).stop ≡ stopped n
      → StopTold (task_of l) s numbers n (ran l s numbers scratch)
  unfolding run_answer end_of
  stop_is_told n e =
      let w = stopped_where (task_of l) s numbers n e in
      rw (run_is_the_plain_run l s numbers scratch free)
      (record { at = w; end = rw (e, w.counted); steps = w.counted; state = w.state })

  -- It tells a plan, an end with the goal true, exactly if the run was not stopped and the goal holds in the state that it leaves.
  pub call_tells_a_plan_exactly_if :
      let w = ran l s numbers scratch in
      w.answer.end ≡ Ended true
      ↔ ((plain_run (task_of l) s numbers).stop ≡ ended) × (goal_true (task_of l) w.state ≡ true)
  unfolding run_answer end_of
  call_tells_a_plan_exactly_if =
      let t = task_of l in
      let r = plain_run t s numbers in
      rw (run_is_the_plain_run l s numbers scratch free) (
        λ e.
            let q = ended_by r.stop r.steps r.goal true e in
            (q.0, sym (goal_told t s numbers) ∙ q.1),
        λ p. rw (p.0, goal_told t s numbers ∙ p.1),
      )

-- The call of a step.
module _ (l : Lent) (s : List ℕ) (o : ℕ) (scratch : List ℕ) where
  -- refusal 0: nothing refused it early, and the plain run of its one number is not stopped
  done_by :
      (stepped l s o scratch).answer.refusal ≡ 0
      → (early_refusal l s scratch ≡ 0) × ((plain_run (task_of l) s (o ∷ [])).stop ≡ ended)
  unfolding stepped step_by step_told step_refused
  done_by = go (early_refusal l s scratch) refl (plain_run (task_of l) s (o ∷ [])).stop refl
    where
      go :
          (k : ℕ)
          → early_refusal l s scratch ≡ k
          → (q : Stop)
          → (plain_run (task_of l) s (o ∷ [])).stop ≡ q
          → (stepped l s o scratch).answer.refusal ≡ 0
          → (early_refusal l s scratch ≡ 0) × ((plain_run (task_of l) s (o ∷ [])).stop ≡ ended)
      go zero k ended q e = (k, q)
      go zero k (stopped n) q e =
          let w = stopped_where (task_of l) s (o ∷ []) n q in
          let z : n ≡ 0 = rw (k, q) at e in
          absurd (⊎_elim (λ r. omega (arith, r.0)) (λ r. omega (arith, r.0)) w.reason)
      go (suc m) k q p e =
          let z : suc m ≡ 0 = rw k at e in
          absurd (omega arith)

  -- Done, it tells one step, the cost in the operator's row, and whether the goal holds in the state that it leaves; all variables changed at once.
  pub done_step_tells : (stepped l s o scratch).answer.refusal ≡ 0 → StepTold (task_of l) s o (stepped l s o scratch)
  unfolding stepped step_by step_told plain_run run_on answer
  done_step_tells e =
      let t = task_of l in
      let w = done_by e in
      let d : Done t s [] o = each_number_was_done t s [] o [] w.1 in
      rw (w.0, w.1)
      (record {
        steps = unstopped_run_does_all t s (o ∷ []) w.1;
        cost = cost_is_the_sum t s (o ∷ []) w.1;
        goal = goal_told t s (o ∷ []);
        state = (number_behind_is_done t s [] o d).1;
      })

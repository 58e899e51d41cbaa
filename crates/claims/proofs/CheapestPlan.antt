-- K1: the cheapest plan is what 02 says, among the plans of any length; and a task and its compiled task have the same one.
use Prim.Native.Nat.{ℕ, zero, suc, ◌+◌, ◌-◌, ◌*◌, ◌^◌}
use native.Mathlib.Omega.{arith}
use mathlib.Core.Path.{◌≡◌, refl, ap}
use mathlib.Core.Logic.{◌↔◌}
use mathlib.Core.Bool.{Bool, true, false, cond}
use mathlib.Core.List.{List}
use lib.ListN.{length, replicate}
use lib.Seq.{take-append_seam}
use lib.Dec.{leb}
use borrow.Author.Tests.{leb-true, le-leb}
use Rattle.task.specs.declared.Head.{Head}
use Rattle.task.specs.Table.{Lent, Task, task_of}
use Rattle.task.specs.Rules.{Checked}
use Rattle.task.specs.Check.{refusal, unless}
use Rattle.task.specs.Words.{padded}
use Rattle.task.proofs.Bounded.{and_left, and_right, and_both}
use Rattle.task.proofs.Passed.{not_refused}
use Rattle.task.proofs.Kept.{kept_rules}
use Rattle.stepper.specs.Stepped.{first_of, step_scratch_kept}
use Rattle.stepper.proofs.Refusing.{first_none}
use Rattle.normal_form.specs.Finished.{finished}
use Rattle.normal_form.specs.Compiled.{Room, compiled_head, compiling, given}
use Rattle.normal_form.proofs.ShapePassed.{finished_rules}
use Rattle.cheapest_plan.specs.Cheapest.{Pick, no_plan, plan_of, cheapest}
use Rattle.cheapest_plan.specs.Order.{Plan}
use Rattle.cheapest_plan.specs.Planned.{few_variables, search_scratch_kept, search_refusal, plan_refused, plan_written, plan_told, planned_by, planned}
use Rattle.cheapest_plan.proofs.Cheapest.{cheapest_is_plan, plan_is_short, none-cheaper, none-shorter, none_before, cheapest_is_least, no_plan_exactly_if, least_is_cheapest, same_cheapest}
use Rattle.claims.specs.Statements.{Compiles, RunsAlike}
use Rattle.claims.specs.Numbers.{Given, broken, keeps, no_rule_left}
use Rattle.claims.specs.CheapestPlan.{CheapestPlan, PlanTold, SearchRoom, HasPlan, PlanFits, plan_numbers, PlanKept, PlanLeaves}
use Rattle.claims.proofs.Numbers.{given as given-rule, at_most, tables_given_passed, passed_on, behind_kept, tables_passed, tables_behind}
use Rattle.claims.proofs.Refusals.{all_zero, words_past}
use Rattle.claims.proofs.DemandThree.{demand_three, given_runs_alike}

-- what is given is the cheapest plan
pub given_is_cheapest : (t : Task) → Checked t → {p : List ℕ} {c : ℕ} → cheapest t ≡ plan_of p c → CheapestPlan t p c
given_is_cheapest t passes e =
    record {
      plan = (cheapest_is_plan t passes e).0;
      charged = (cheapest_is_plan t passes e).1;
      least_cost = none-cheaper t passes e;
      fewest_steps = none-shorter t passes e;
      first = none_before t passes e;
      short = plan_is_short t passes e;
    }

-- Source and compiled task: the same plan at the same cost, or none in both.
alike_cheapest : (t u : Task) → Checked t → Checked u → RunsAlike t u → cheapest t ≡ cheapest u
alike_cheapest t u x y d =
    same_cheapest t u x y
    (λ numbers.
    let a = d.runs t.initial u.initial numbers refl d.initially in
    (a.plan, a.cost))

pub same_cheapest_plan : (t : Task) → Compiles t → cheapest t ≡ cheapest (finished t)
same_cheapest_plan t c =
    alike_cheapest t (finished t) c.rules.checked (finished_rules t c.rules.checked c.room) (demand_three t c)

module _ (l : Lent) (scratch words : List ℕ) (passed : search_refusal l scratch words ≡ 0) where
  tables_pass : refusal l ≡ 0
  unfolding search_refusal
  tables_pass = first_none (refusal l) (unless (few_variables l.head) 21 (unless (search_scratch_kept l.head scratch words) 14 0)) passed

  pub checked : Checked (task_of l)
  checked = (kept_rules l tables_pass).1

  searched : (plan : List ℕ) → planned l plan scratch words ≡ plan_told (cheapest (task_of l)) plan scratch words
  unfolding planned planned_by
  searched plan = rw passed

  -- 22 is given exactly if no list of numbers whatever is a plan
  pub twenty_two_exactly_if :
      (plan : List ℕ)
      → (planned l plan scratch words).answer.refusal ≡ 22
      ↔ ((numbers : List ℕ) → Plan (task_of l) numbers → ⊥)
  unfolding plan_told plan_refused plan_written
  twenty_two_exactly_if plan = rw (searched plan) (go (cheapest (task_of l)) refl)
    where
      go :
          (a : Pick)
          → cheapest (task_of l) ≡ a
          → (plan_told a plan scratch words).answer.refusal ≡ 22
          ↔ ((numbers : List ℕ) → Plan (task_of l) numbers → ⊥)
      go no_plan e = (λ z. (no_plan_exactly_if (task_of l) checked).0 e, λ nothing. refl)
      go (plan_of p c) e = (
        λ z. absurd (not-told (leb (length p) (length plan)) z),
        λ nothing. absurd (nothing p (cheapest_is_plan (task_of l) checked e).0),
      )
        where
          not-told :
              (b : Bool)
              → (cond b (plan_written p c plan scratch words) (plan_refused 23 plan scratch words)).answer.refusal ≡ 22
              → ⊥
          not-told true z = omega arith
          not-told false z = omega arith

-- A call that is not refused tells the cheapest plan.
pub call_tells_the_cheapest :
    (l : Lent) (plan scratch words : List ℕ)
    → (planned l plan scratch words).answer.refusal ≡ 0
    → PlanTold (task_of l) (planned l plan scratch words)
unfolding planned planned_by plan_told plan_refused plan_written padded
call_tells_the_cheapest l plan scratch words z = go (search_refusal l scratch words) refl z
  where
    written :
        (passed : search_refusal l scratch words ≡ 0)
        → {p : List ℕ} {c : ℕ}
        → cheapest (task_of l) ≡ plan_of p c
        → (b : Bool)
        → (cond b (plan_written p c plan scratch words) (plan_refused 23 plan scratch words)).answer.refusal ≡ 0
        → PlanTold (task_of l) (cond b (plan_written p c plan scratch words) (plan_refused 23 plan scratch words))
    written passed {p} e true z =
        record {
          numbers = p;
          cheapest = given_is_cheapest (task_of l) (checked l scratch words passed) e;
          steps = refl;
          written = take-append_seam p (replicate (length plan - length p) 0);
        }
    written passed e false z = absurd (omega arith)

    told :
        search_refusal l scratch words ≡ 0
        → (a : Pick)
        → cheapest (task_of l) ≡ a
        → (plan_told a plan scratch words).answer.refusal ≡ 0
        → PlanTold (task_of l) (plan_told a plan scratch words)
    told passed no_plan e z = absurd (omega arith)
    told passed (plan_of p c) e z = written passed e (leb (length p) (length plan)) z

    go :
        (n : ℕ)
        → search_refusal l scratch words ≡ n
        → (planned_by n l plan scratch words).answer.refusal ≡ 0
        → PlanTold (task_of l) (planned_by n l plan scratch words)
    go zero e z = told e (cheapest (task_of l)) refl z
    go (suc n) e z = absurd (omega arith)

-- the outcome's answer and plan are told by what is picked and how long the buffer is
module _ (plan plan' scratch scratch' words words' : List ℕ) (size : length plan ≡ length plan') where
  told_alike :
      (a : Pick)
      → let w = plan_told a plan scratch words in
      let w' = plan_told a plan' scratch' words' in
      (w.answer ≡ w'.answer) × (w.plan ≡ w'.plan)
  unfolding plan_told plan_refused plan_written
  told_alike no_plan = (refl, ap (λ (n : ℕ). replicate n 0) size)
  told_alike (plan_of p c) = rw (ap (leb (length p)) size) (fits (leb (length p) (length plan')))
    where
      fits :
          (b : Bool)
          → let w = cond b (plan_written p c plan scratch words) (plan_refused 23 plan scratch words) in
          let w' = cond b (plan_written p c plan' scratch' words') (plan_refused 23 plan' scratch' words') in
          (w.answer ≡ w'.answer) × (w.plan ≡ w'.plan)
      fits true = (refl, ap (λ (n : ℕ). padded n p) size)
      fits false = (refl, ap (λ (n : ℕ). replicate n 0) size)

-- The call on a task's tables and on the tables that compiling gave: where neither is refused before it searches, they answer the same, number, steps and
-- cost, and write the same plan into buffers of one length.
pub plans_alike :
    (l : Lent) (room : Room) (h : Head)
    → (compiling l room).answer ≡ compiled_head h
    → (plan plan' scratch scratch' words words' : List ℕ)
    → length plan ≡ length plan'
    → search_refusal l scratch words ≡ 0
    → search_refusal (given h (compiling l room)) scratch' words' ≡ 0
    → let w = planned l plan scratch words in
    let w' = planned (given h (compiling l room)) plan' scratch' words' in
    (w.answer ≡ w'.answer) × (w.plan ≡ w'.plan)
plans_alike l room h success plan plan' scratch scratch' words words' size e e' =
    let u = given h (compiling l room) in
    let same : cheapest (task_of l) ≡ cheapest (task_of u) =
    alike_cheapest (task_of l) (task_of u) (checked l scratch words e) (checked u scratch' words' e')
    (given_runs_alike l room h success) in
    rw (searched l scratch words e plan, searched u scratch' words' e' plan', same)
    (told_alike plan plan' scratch scratch' words words' size (cheapest (task_of u)))

-- Which number the call gives: that of the first rule in 02's order that is broken.
room_tested : (l : Lent) (scratch words : List ℕ) → search_scratch_kept l.head scratch words ≡ true ↔ SearchRoom l scratch words
unfolding search_scratch_kept step_scratch_kept
room_tested l scratch words =
    let h = l.head in
    let bytes = leb (h.formulas + h.effects) (length scratch) in
    let states = leb (4 * 2 ^ h.variables) (length words) in (
      λ e.
          record {
            bytes = leb-true (h.formulas + h.effects) (length scratch) (and_left bytes states e);
            states = leb-true (4 * 2 ^ h.variables) (length words) (and_right bytes states e);
          },
      λ r.
          and_both (le-leb (h.formulas + h.effects) (length scratch) r.bytes)
          (le-leb (4 * 2 ^ h.variables) (length words) r.states),
    )

fits_tested :
    (t : Task)
    → Checked t
    → {p : List ℕ} {c : ℕ}
    → cheapest t ≡ plan_of p c
    → (n : ℕ)
    → leb (length p) n ≡ true ↔ PlanFits t n
fits_tested t passes {p} {c} e n = (
  λ b.
      record {
        fits =
            λ q least.
            let one = least_is_cheapest t passes least in
            let same : q ≡ p = cc in
            rw same (leb-true (length p) n b);
      },
  λ f. le-leb (length p) n (f.fits p (cheapest_is_least t passes e)),
)

module _ (l : Lent) (plan scratch words : List ℕ) where
  plan_given :
      Checked (task_of l)
      → Given (HasPlan (task_of l)) 22 (Given (PlanFits (task_of l) (length plan)) 23 no_rule_left)
      (plan_told (cheapest (task_of l)) plan scratch words).answer.refusal
  unfolding plan_told plan_refused plan_written
  plan_given passes = go (cheapest (task_of l)) refl
    where
      number :
          (p : List ℕ) (c : ℕ) (b : Bool)
          → (cond b (plan_written p c plan scratch words) (plan_refused 23 plan scratch words)).answer.refusal
          ≡ unless b 23 0
      number p c true = refl
      number p c false = refl

      go :
          (a : Pick)
          → cheapest (task_of l) ≡ a
          → Given (HasPlan (task_of l)) 22 (Given (PlanFits (task_of l) (length plan)) 23 no_rule_left)
          (plan_told a plan scratch words).answer.refusal
      go no_plan e = broken (λ h. (no_plan_exactly_if (task_of l) passes).0 e h.numbers h.plan) refl
      go (plan_of p c) e =
          keeps (record { numbers = p; plan = (cheapest_is_plan (task_of l) passes e).0 })
          (rw (number p c (leb (length p) (length plan)))
          (given-rule (leb (length p) (length plan)) 23 0 (fits_tested (task_of l) passes e (length plan)) (λ _. refl)))

  number_told :
      (r : ℕ) (a b : Bool)
      → (planned_by (first_of r (unless a 21 (unless b 14 0))) l plan scratch words).answer.refusal
      ≡ first_of r (unless a 21 (unless b 14 (plan_told (cheapest (task_of l)) plan scratch words).answer.refusal))
  unfolding planned_by plan_refused
  number_told zero true true = refl
  number_told zero true false = refl
  number_told zero false b = refl
  number_told (suc r) a b = refl

  pub plan_gives_the_first : plan_numbers l plan scratch words (planned l plan scratch words).answer.refusal
  unfolding planned search_refusal few_variables
  plan_gives_the_first =
      let h = l.head in
      rw (number_told (refusal l) (leb h.variables 10) (search_scratch_kept h scratch words))
      (tables_given_passed l _ _ (λ passed.
      given-rule (leb h.variables 10) 21 _ (at_most h.variables 10) (λ _.
      given-rule (search_scratch_kept h scratch words) 14 _ (room_tested l scratch words) (λ _.
      plan_given (kept_rules l (not_refused l passed)).1))))

  -- refused by no number exactly if all rules are kept
  pub planned_exactly_if : (planned l plan scratch words).answer.refusal ≡ 0 ↔ PlanKept l plan scratch words
  planned_exactly_if =
      let g = plan_gives_the_first in (
        λ z.
            let t = tables_passed l g z in
            let g21 = passed_on 20 t.1 z in
            let g14 = passed_on 13 g21.1 z in
            let g22 = passed_on 21 g14.1 z in
            let g23 = passed_on 22 g22.1 z in
            record { tables = t.0; few_variables = g21.0; room = g14.0; exists = g22.0; output = g23.0 },
        λ k.
            behind_kept
            (behind_kept (behind_kept (behind_kept (tables_behind l g k.tables) k.few_variables) k.room) k.exists)
            k.output,
      )

  -- What the call leaves.
  pub plan_leaves : PlanLeaves plan scratch words (planned l plan scratch words)
  unfolding planned planned_by plan_told plan_refused plan_written padded
  plan_leaves = go (search_refusal l scratch words)
    where
      nothing_given : (n : ℕ) → PlanLeaves plan scratch words (plan_refused (suc n) plan scratch words)
      nothing_given n =
          record {
            after_refusal = λ d. record { no_steps = refl; no_cost = refl; plan = all_zero (length plan) };
            after_success = λ z. absurd (omega arith);
            bytes = all_zero (length scratch);
            states = all_zero (length words);
          }

      fits :
          (p : List ℕ) (c : ℕ) (b : Bool)
          → leb (length p) (length plan) ≡ b
          → PlanLeaves plan scratch words (cond b (plan_written p c plan scratch words) (plan_refused 23 plan scratch words))
      fits p c true e =
          record {
            after_refusal = λ d. absurd (d refl);
            after_success = λ z. words_past (length plan) p (leb-true (length p) (length plan) e);
            bytes = all_zero (length scratch);
            states = all_zero (length words);
          }
      fits p c false e = nothing_given 22

      told : (a : Pick) → PlanLeaves plan scratch words (plan_told a plan scratch words)
      told no_plan = nothing_given 21
      told (plan_of p c) = fits p c (leb (length p) (length plan)) refl

      go : (n : ℕ) → PlanLeaves plan scratch words (planned_by n l plan scratch words)
      go zero = told (cheapest (task_of l))
      go (suc n) = nothing_given n

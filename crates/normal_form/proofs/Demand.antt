-- Demand 3: a source task and its finished task run alike from corresponding states, whatever the list of operator numbers.
use Prim.Native.Nat.{ℕ, zero, suc, ◌+◌, ◌-◌, ◌<◌, ◌≤◌}
use native.Mathlib.Nat.{not-suc-le-zero}
use native.Mathlib.Omega.{arith}
use mathlib.Core.Path.{◌≡◌, refl, sym, ap, ap₂, ◌∙◌}
use mathlib.Core.Bool.{Bool, true, false, cond}
use mathlib.Core.List.{List, [], ◌∷◌, map}
use lib.ListN.{length, get_or, length-append, length-map, get_or-append}
use lib.Seq.{get_or-append-add}
use lib.Dec.{ltb}
use borrow.Author.Tests.{ltb-true, le-ltb}
use Rattle.task.specs.Table.{Task}
use Rattle.task.specs.Rules.{no_operator, Limits, Checked, Rules}
use Rattle.task.proofs.Sixteen.{rules_with_costs}
use Rattle.task.specs.Run.{operator_of, effect_of_operator, applicable, charge, Progress, after_step, Stop, ended, stopped, Run, answer, run_on, plain_run, unstopped, is_plan}
use Rattle.task.specs.Corresponding.{Corresponding}
use Rattle.normal_form.specs.Finished.{built, twin_values, finished}
use Rattle.normal_form.specs.Alike.{Alike, Outside}
use Rattle.normal_form.proofs.ShapeFinished.{finished_operators}
use Rattle.normal_form.proofs.ShapePassed.{finished_rules}
use Rattle.normal_form.proofs.MeaningFinished.{same_goal, same_applicable, same_cost, same_charge}
use Rattle.normal_form.proofs.MeaningStep.{length_apply, correspond_after}

-- The initial states correspond.
pub map_at : (f : ℕ → ℕ) (l : List ℕ) (k : ℕ) → k < length l → get_or (map f l) k 0 ≡ f (get_or l k 0)
map_at f [] k h = absurd (not-suc-le-zero h)
map_at f (x ∷ l) zero h = refl
map_at f (x ∷ l) (suc k) h = map_at f l k (omega arith)

pub initial_correspond : (t : Task) → Checked t → Corresponding (finished t).originals t.initial (finished t).initial
unfolding finished twin_values
initial_correspond t rules =
    let twins = (built t).st.twins in
    let f : ℕ → ℕ = λ v. 1 - get_or t.initial v 0 in
    record {
      bits = rules.initial_bits;
      width = length-append t.initial (map f twins) ∙ ap (λ (k : ℕ). length t.initial + k) (length-map twins f);
      same = λ v h. get_or-append t.initial (map f twins) 0 v h;
      opposite = λ k h. get_or-append-add t.initial (map f twins) k 0 ∙ map_at f twins k h;
    }

-- The plain run, number by number.
run_outside :
    (t : Task) (p : Progress) (o : ℕ) (rest : List ℕ)
    → ltb o (length t.operators) ≡ false
    → run_on t p (o ∷ rest) ≡ answer t p (stopped 17)
unfolding run_on
run_outside t p o rest e = rw e

run_refused :
    (t : Task) (p : Progress) (o : ℕ) (rest : List ℕ)
    → ltb o (length t.operators) ≡ true
    → applicable t p.state o ≡ false
    → run_on t p (o ∷ rest) ≡ answer t p (stopped 18)
unfolding run_on
run_refused t p o rest e f = rw (e, f)

run_step :
    (t : Task) (p : Progress) (o : ℕ) (rest : List ℕ)
    → ltb o (length t.operators) ≡ true
    → applicable t p.state o ≡ true
    → run_on t p (o ∷ rest) ≡ run_on t (after_step t p o) rest
unfolding run_on
run_step t p o rest e f = rw (e, f)

-- Two progresses, after as many steps of equal cost, in corresponding states of the source's width.
record Abreast (t : Task) (p p' : Progress) : Type 0 where
  wide : length p.state ≡ length t.initial
  states : Corresponding (finished t).originals p.state p'.state
  steps : p.steps ≡ p'.steps
  cost : p.cost ≡ p'.cost

module _ (t : Task) (rules : Checked t) where
  alike_answer :
      (p p' : Progress) (reason : Stop)
      → Abreast t p p'
      → Alike (finished t).originals (answer t p reason) (answer (finished t) p' reason)
  unfolding answer is_plan
  alike_answer p p' reason a =
      let g = sym (same_goal t rules p.state p'.state a.wide a.states) in
      record {
        states = a.states;
        steps = a.steps;
        cost = a.cost;
        stop = refl;
        goal = g;
        plan = ap (λ (b : Bool). cond (unstopped reason) b false) g;
      }

  abreast_after :
      (p p' : Progress) (o : ℕ)
      → o < length t.operators
      → Abreast t p p'
      → Abreast t (after_step t p o) (after_step (finished t) p' o)
  unfolding after_step charge
  abreast_after p p' o h a =
      record {
        wide = length_apply p.state (effect_of_operator t o) ∙ a.wide;
        states = correspond_after t rules p.state p'.state a.wide a.states o h;
        steps = ap (λ (k : ℕ). k + 1) a.steps;
        cost = ap₂ ◌+◌ a.cost (sym (same_charge t rules p.state p'.state a.wide a.states o h));
      }

  run_alike :
      (numbers : List ℕ) (p p' : Progress)
      → Abreast t p p'
      → Alike (finished t).originals (run_on t p numbers) (run_on (finished t) p' numbers)
  unfolding run_on
  run_alike [] p p' a = alike_answer p p' ended a
  run_alike (o ∷ rest) p p' a =
      below (ltb o (length t.operators)) refl (run_alike rest (after_step t p o) (after_step (finished t) p' o))
    where
      later : Type 0
      later =
          Abreast t (after_step t p o) (after_step (finished t) p' o)
          → Alike (finished t).originals (run_on t (after_step t p o) rest)
          (run_on (finished t) (after_step (finished t) p' o) rest)

      count : ltb o (length (finished t).operators) ≡ ltb o (length t.operators)
      count = ap (ltb o) (finished_operators t)

      may :
          (b : Bool)
          → applicable t p.state o ≡ b
          → ltb o (length t.operators) ≡ true
          → later
          → Alike (finished t).originals (run_on t p (o ∷ rest)) (run_on (finished t) p' (o ∷ rest))
      may true e l k =
          let h : o < length t.operators = ltb-true o (length t.operators) l in
          rw (run_step t p o rest l e, run_step (finished t) p' o rest (count ∙ l) (same_applicable t rules p.state p'.state a.wide a.states o h ∙ e))
          (k (abreast_after p p' o h a))
      may false e l k =
          let h : o < length t.operators = ltb-true o (length t.operators) l in
          rw (run_refused t p o rest l e, run_refused (finished t) p' o rest (count ∙ l) (same_applicable t rules p.state p'.state a.wide a.states o h ∙ e))
          (alike_answer p p' (stopped 18) a)

      below :
          (b : Bool)
          → ltb o (length t.operators) ≡ b
          → later
          → Alike (finished t).originals (run_on t p (o ∷ rest)) (run_on (finished t) p' (o ∷ rest))
      below true e k = may (applicable t p.state o) refl e k
      below false e k =
          rw (run_outside t p o rest e, run_outside (finished t) p' o rest (count ∙ e)) (alike_answer p p' (stopped 17) a)

-- From corresponding states, whatever the list of operator numbers, the two plain runs are alike: one claim about the whole list. Neither
-- W 0 nor the limits of the finished task are needed.
pub alike_from :
    (t : Task)
    → Checked t
    → (s s' : List ℕ)
    → length s ≡ length t.initial
    → Corresponding (finished t).originals s s'
    → (numbers : List ℕ)
    → Alike (finished t).originals (plain_run t s numbers) (plain_run (finished t) s' numbers)
unfolding plain_run
alike_from t rules s s' width states numbers =
    run_alike t rules numbers (record { state = s; steps = 0; cost = 0 }) (record { state = s'; steps = 0; cost = 0 })
    (record { wide = width; states = states; steps = refl; cost = refl })

-- The finished task keeps the rules that the source keeps, the range of costs among them, where it keeps the limits.
pub finished_keeps : (t : Task) → Rules t → Limits (finished t) → Rules (finished t)
unfolding operator_of
finished_keeps t r limits =
    rules_with_costs (finished t) (finished_rules t c limits) (λ o h.
    let b : o < length t.operators = rw (finished_operators t) at h in
    rw (cost-kept o b) (r.cost o b))
  where
    c : Checked t
    c = r.checked

    cost-kept :
        (o : ℕ)
        → o < length t.operators
        → (get_or (finished t).operators o no_operator).cost ≡ (get_or t.operators o no_operator).cost
    cost-kept o b = same_cost t c t.initial (finished t).initial refl (initial_correspond t c) o b

-- A number not below O is applicable nowhere, and stops a run with 17 where it is met.
not_inside : (t : Task) (o : ℕ) → length t.operators ≤ o → Outside t o
unfolding plain_run answer applicable
not_inside t o h =
    let e = le-ltb o (length t.operators) h in
    record {
      nowhere = λ s. rw e;
      met = λ p rest. run_outside t p o rest e;
      first = λ s rest. ap (λ (r : Run). r.stop) (run_outside t (record { state = s; steps = 0; cost = 0 }) o rest e);
    }

-- Outside the source is outside the finished task.
pub outside : (t : Task) → (o : ℕ) → length t.operators ≤ o → Outside t o × Outside (finished t) o
outside t o h = (not_inside t o h, not_inside (finished t) o (omega (arith, finished_operators t)))

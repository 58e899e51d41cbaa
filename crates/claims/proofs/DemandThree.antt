-- Demand 3: a task and its compiled task run alike.
use Prim.Native.Nat.{ℕ}
use mathlib.Core.Path.{◌≡◌, refl, ap}
use mathlib.Core.List.{List}
use lib.ListN.{length, take}
use Rattle.task.specs.declared.Head.{Head}
use Rattle.task.specs.Table.{Lent, Task, task_of}
use Rattle.task.specs.Check.{refusal}
use Rattle.task.specs.Rules.{Limits, Checked, LentWords}
use Rattle.task.proofs.Sixteen.{lent_rules}
use Rattle.task.specs.Run.{plain_run, is_plan}
use Rattle.task.proofs.Kept.{kept_rules}
use Rattle.normal_form.specs.Finished.{finished}
use Rattle.normal_form.specs.Compiled.{Room, compiled_head, compiling, given}
use Rattle.normal_form.proofs.MeaningStep.{free_of_conflict}
use Rattle.normal_form.proofs.Demand.{alike_from, initial_correspond, outside}
use Rattle.normal_form.proofs.Compiled.{given_compiles, given_task}
use Rattle.claims.specs.Statements.{Compiles, RunsAlike}

runs_alike : (t : Task) → Checked t → RunsAlike t (finished t)
runs_alike t c =
    record {
      runs = λ s s' numbers width states. alike_from t c s s' width states numbers;
      initially = initial_correspond t c;
      free = λ s s' width states o x. free_of_conflict t c s s' width states o x;
      outside = outside t;
    }

-- Demand 3, whole: one claim about every list of operator numbers and all answers.
pub demand_three : (t : Task) → Compiles t → RunsAlike t (finished t)
demand_three t c = runs_alike t c.rules.checked

-- The same of tables that a caller lends: the check passes them, W is 0 and the finished task keeps the limits.
no_twins : (l : Lent) → l.head.twins ≡ 0 → length (task_of l).originals ≡ 0
unfolding task_of
no_twins l e = ap (λ (k : ℕ). length (take k l.twins)) e

pub tables_compile :
    (l : Lent) → LentWords l → refusal l ≡ 0 → l.head.twins ≡ 0 → Limits (finished (task_of l)) → Compiles (task_of l)
tables_compile l words passed untwinned room =
    let k = kept_rules l passed in
    record { rules = lent_rules l words k.0 k.1; untwinned = no_twins l untwinned; room = room }

pub demand_three_of_tables :
    (l : Lent)
    → refusal l ≡ 0
    → l.head.twins ≡ 0
    → Limits (finished (task_of l))
    → RunsAlike (task_of l) (finished (task_of l))
demand_three_of_tables l passed untwinned room = runs_alike (task_of l) (kept_rules l passed).1

-- The same of a compiling that succeeds: the source's tables and the tables that it gave.
pub given_runs_alike :
    (l : Lent) (room : Room) (h : Head)
    → (compiling l room).answer ≡ compiled_head h
    → RunsAlike (task_of l) (task_of (given h (compiling l room)))
given_runs_alike l room h success =
    let c = given_compiles l room h success in
    rw (given_task l room h success) (demand_three_of_tables l c.passes c.untwinned c.fits.limits)

-- What the users read off it: from the initial states the two tasks have the same plans, and each costs the same in both.
pub same_plans :
    (t : Task)
    → Compiles t
    → (numbers : List ℕ)
    → let r = plain_run t t.initial numbers in
    let r' = plain_run (finished t) (finished t).initial numbers in
    (is_plan r ≡ is_plan r') × (r.cost ≡ r'.cost)
same_plans t c numbers =
    let d = demand_three t c in
    let a = d.runs t.initial (finished t).initial numbers refl d.initially in
    (a.plan, a.cost)

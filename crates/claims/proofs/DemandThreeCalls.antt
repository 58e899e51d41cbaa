-- Demand 3, of the program's calls: run on a task's tables and run on the tables that compiling gave.
use Prim.Native.Nat.{ℕ, ◌+◌, ◌-◌, ◌≤◌, ◌<◌}
use native.Mathlib.Omega.{arith}
use native.Mathlib.Decide.{dec_lt}
use mathlib.Core.Path.{◌≡◌, refl, sym, ◌∙◌}
use mathlib.Core.Bool.{true}
use mathlib.Core.List.{List}
use lib.ListN.{length, get_or}
use lib.Dec.{leb}
use borrow.Author.Tests.{le-leb}
use Rattle.task.specs.declared.Head.{Head}
use Rattle.task.specs.Bounded.{every}
use Rattle.task.specs.Table.{Lent, task_of}
use Rattle.task.specs.Words.{head_of}
use Rattle.task.specs.Run.{Run, plain_run}
use Rattle.task.specs.Corresponding.{Corresponding}
use Rattle.task.proofs.Bounded.{every_from}
use Rattle.task.proofs.Held.{length_initial}
use Rattle.task.proofs.Kept.{kept_rules}
use Rattle.normal_form.specs.Finished.{finished}
use Rattle.normal_form.specs.Alike.{Alike}
use Rattle.normal_form.specs.Compiled.{Room, compiled_head, compiling, given}
use Rattle.normal_form.proofs.ShapePassed.{finished_variables}
use Rattle.normal_form.proofs.Compiled.{given_compiles, given_task, given_head, given_passes}
use Rattle.stepper.proofs.Refusing.{not_refused}
use Rattle.plan.specs.Outcome.{early_refusal, run_refusal, run_answer, ran}
use Rattle.plan.proofs.Refusing.{run_not_refused, run_ready, short_enough}
use Rattle.claims.proofs.DemandThree.{given_runs_alike}
use Rattle.claims.proofs.DemandTwoRuns.{run_is_the_plain_run}

alike_answers : {originals : List ℕ} (r r' : Run) → Alike originals r r' → run_answer r ≡ run_answer r'
unfolding run_answer
alike_answers r r' a = rw (a.steps, a.cost, a.goal, a.stop)

module _ (l : Lent) (room : Room) (h : Head) (success : (compiling l room).answer ≡ compiled_head h) where
  width : (s numbers scratch : List ℕ) → run_refusal l s numbers scratch ≡ 0 → length s ≡ length (task_of l).initial
  width s numbers scratch e =
      (run_ready l s numbers scratch (sym e)).state.size
      ∙ sym (length_initial l (kept_rules l (given_compiles l room h success).passes).0)

  -- Where compiling succeeded and neither run is refused, they answer the same, steps, cost, goal and end, and their last states correspond.
  pub calls_alike :
      (s s' numbers scratch scratch' : List ℕ)
      → Corresponding (task_of (given h (compiling l room))).originals s s'
      → run_refusal l s numbers scratch ≡ 0
      → run_refusal (given h (compiling l room)) s' numbers scratch' ≡ 0
      → let w = ran l s numbers scratch in
      let w' = ran (given h (compiling l room)) s' numbers scratch' in
      (w.answer ≡ w'.answer) × Corresponding (task_of (given h (compiling l room))).originals w.state w'.state
  calls_alike s s' numbers scratch scratch' states e e' =
      let a = (given_runs_alike l room h success).runs s s' numbers (width s numbers scratch e) states in
      rw (run_is_the_plain_run l s numbers scratch e, run_is_the_plain_run (given h (compiling l room)) s' numbers scratch' e')
      (alike_answers (plain_run (task_of l) s numbers) (plain_run (task_of (given h (compiling l room))) s' numbers) a, a.states)

  -- what a corresponding compiled state is: a byte a variable, 0 or 1
  wide :
      (s s' : List ℕ)
      → length s ≡ length (task_of l).initial
      → Corresponding (task_of (given h (compiling l room))).originals s s'
      → length s' ≡ h.variables
  unfolding head_of
  wide s s' w states =
      let t = task_of l in
      let e : length s' ≡ length s + length (finished t).originals = rw (given_task l room h success) at states.width in
      rw (given_head l room h success) (omega (arith, finished_variables t))

  bits :
      (s s' : List ℕ)
      → Corresponding (task_of (given h (compiling l room))).originals s s'
      → (v : ℕ)
      → v < length s'
      → get_or s' v 0 ≤ 1
  bits s s' states v b = go (dec_lt v (length s))
    where
      go : Dec (v < length s) → get_or s' v 0 ≤ 1
      go (yes i) = omega (arith, states.same v i, states.bits v i)
      go (no i) =
          let k = v - length s in
          let split : v ≡ length s + k = omega arith in
          let o = states.opposite k (omega (arith, states.width)) in
          rw split (omega arith)

  -- A run that is not refused on the source's tables is not refused on the compiled ones either, scratch aside.
  pub compiled_run_not_refused :
      (s s' numbers scratch scratch' : List ℕ)
      → Corresponding (task_of (given h (compiling l room))).originals s s'
      → run_refusal l s numbers scratch ≡ 0
      → h.formulas + h.effects ≤ length scratch'
      → run_refusal (given h (compiling l room)) s' numbers scratch' ≡ 0
  compiled_run_not_refused s s' numbers scratch scratch' states e enough =
      let told : every (length s') (λ v. leb (get_or s' v 0) 1) ≡ true =
      every_from (length s') (λ v. leb (get_or s' v 0) 1) (λ v b. le-leb (get_or s' v 0) 1 (bits s s' states v b))
      in
      let early : 0 ≡ early_refusal (given h (compiling l room)) s' scratch' =
      not_refused (given h (compiling l room)) s' scratch' (sym (given_passes l room h success))
      (wide s s' (width s numbers scratch e) states) (sym told) refl enough
      in
      sym
      (run_not_refused (given h (compiling l room)) s' numbers scratch' early
      (short_enough l s numbers scratch (sym e)))

-- Laws of the run: from step to step it is the plain run, and its two ends tell what the plain run answers. Assumes nothing.
use Prim.Native.Nat.{ℕ, suc, ◌+◌, ◌*◌, ◌≤◌, ◌<◌}
use native.Mathlib.Numerals.{add-one}
use native.Mathlib.Omega.{arith}
use mathlib.Core.Path.{◌≡◌, refl, sym, ap, ◌∙◌}
use mathlib.Core.Bool.{Bool}
use mathlib.Core.List.{List, ◌∷◌}
use lib.ListN.{length, get_or, drop}
use lib.Seq.{drop-cons, drop-length}
use Rattle.task.specs.declared.Head.{Head}
use Rattle.task.specs.Table.{Task}
use Rattle.task.specs.Run.{Run, Progress, ended, stopped, goal_holds, answer, run_on, plain_run}
use Rattle.operator_step.specs.Inner.Steps.{StateReady, Taken, took, Takes}
use Rattle.operator_step.proofs.Going.{goes_on, stops, taken_ready}
use Rattle.plan.specs.Outcome.{Ended, Stopped, end_of, run_answer}
use Rattle.plan.specs.Inner.Done.{RunDone}

-- the loop: what is left of the plain run stands before the numbers that are left
pub record Goes (h : Head) (t : Task) (s numbers : List ℕ) (steps cost : ℕ) (now : List ℕ) : Type 0 where
  pub rest : plain_run t s numbers ≡ run_on t (record { state = now; steps = steps; cost = cost }) (drop steps numbers)
  pub state : StateReady h now
  pub costs : cost ≤ 131070 * steps

module _ {h : Head} {t : Task} {s numbers : List ℕ} where
  pub starts : StateReady h s → Goes h t s numbers 0 0 s
  unfolding plain_run
  starts ready = record { rest = refl; state = ready; costs = omega arith }

  module _
      {steps cost : ℕ} {now : List ℕ}
      (g : Goes h t s numbers steps cost now)
      (l : steps < length numbers)
      {r : Taken} {after : List ℕ}
      (taken : Takes t now (get_or numbers steps 0) r after) where
    here :
        plain_run t s numbers
        ≡ run_on t (record { state = now; steps = steps; cost = cost }) (get_or numbers steps 0 ∷ drop (suc steps) numbers)
    here =
        g.rest
        ∙ ap (run_on t (record { state = now; steps = steps; cost = cost })) (drop-cons numbers steps 0 l)

    pub after_ready : StateReady h after
    after_ready = taken_ready taken g.state

    pub one_more : r.stop ≡ 0 → Goes h t s numbers (steps + 1) (cost + r.charge) after
    one_more e =
        record {
          rest =
              here
              ∙ goes_on t (record { state = now; steps = steps; cost = cost }) (get_or numbers steps 0) (drop (suc steps) numbers)
              (sym (ap (λ (x : Taken). x.stop) taken.answer) ∙ e)
              ∙ rw (taken.answer, taken.state, add-one steps);
          state = after_ready;
          costs = omega (arith, g.costs, taken.small);
        }

    module _ {goal : Bool} where
      pub stopped_run :
          (r.stop ≡ 0 → ⊥)
          → goal ≡ goal_holds t after
          → RunDone t s numbers (record { steps = steps; cost = cost; goal = goal; end = Stopped r.stop steps }) after
      unfolding run_answer end_of answer
      stopped_run d told =
          record {
            answer = rw (whole, told, same);
            state = same ∙ sym (ap (λ (x : Run). x.state) whole);
          }
        where
          at : Progress
          at = record { state = now; steps = steps; cost = cost }

          stop_same : r.stop ≡ (took t now (get_or numbers steps 0)).answer.stop
          stop_same = ap (λ (x : Taken). x.stop) taken.answer

          ways :
              (run_on t at (get_or numbers steps 0 ∷ drop (suc steps) numbers)
              ≡ answer t at (stopped (took t now (get_or numbers steps 0)).answer.stop))
              × ((took t now (get_or numbers steps 0)).state ≡ now)
          ways = stops t at (get_or numbers steps 0) (drop (suc steps) numbers) (λ z. d (stop_same ∙ z))

          same : after ≡ now
          same = taken.state ∙ ways.1

          whole : plain_run t s numbers ≡ answer t at (stopped r.stop)
          whole = here ∙ ways.0 ∙ ap (λ (x : ℕ). answer t at (stopped x)) (sym stop_same)

  pub ended_run :
      {steps cost : ℕ} {now : List ℕ} {goal : Bool}
      → Goes h t s numbers steps cost now
      → steps ≡ length numbers
      → goal ≡ goal_holds t now
      → RunDone t s numbers (record { steps = steps; cost = cost; goal = goal; end = Ended goal }) now
  unfolding run_answer end_of answer run_on
  ended_run {steps} {cost} {now} g e told =
      record {
        answer = rw (whole, told);
        state = sym (ap (λ (x : Run). x.state) whole);
      }
    where
      at : Progress
      at = record { state = now; steps = steps; cost = cost }

      whole : plain_run t s numbers ≡ answer t at ended
      whole = g.rest ∙ ap (λ (n : ℕ). run_on t at (drop n numbers)) e ∙ ap (run_on t at) (drop-length numbers)

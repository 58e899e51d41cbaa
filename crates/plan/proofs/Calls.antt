-- Laws of the call: each way out gives what the call's definition gives. Assumes nothing.
use Prim.Native.Nat.{ℕ, zero, suc, ◌<◌}
use native.Mathlib.Omega.{arith}
use mathlib.Core.Path.{◌≡◌, refl, sym, ap, ◌∙◌}
use mathlib.Core.Bool.{false}
use mathlib.Core.List.{List}
use lib.ListN.{length, replicate}
use Rattle.std.specs.Prelude.{Result}
use Rattle.std.specs.Result.{IsErrAnd}
use Rattle.task.specs.declared.refusal.Refusal.{Refusal}
use Rattle.task.specs.Refused.{number_of}
use Rattle.task.specs.Table.{Lent, task_of}
use Rattle.task.specs.Run.{plain_run}
use Rattle.task.proofs.Refusals.{number_some}
use Rattle.operator_step.proofs.Taking.{refused}
use Rattle.plan.specs.declared.outcome.RunOutcome.{RunOutcome as Outcome}
use Rattle.plan.specs.Outcome.{RunOutcome, Refused, run_refusal, cleared, run_refused, run_answer, run_told, run_by, ran, run_answered, RunGives}
use Rattle.plan.specs.Inner.Done.{RunDone, RunTold}

-- the ways out of `run_told`
module _ (l : Lent) (s numbers scratch : List ℕ) where
  pub run_refuses :
      (e : Refusal)
      → number_of e ≡ run_refusal l s numbers scratch
      → (r : Result Outcome Refusal)
      → IsErrAnd r (λ x. x ≡ e)
      → RunTold (ran l s numbers scratch) (run_answered r) s
  unfolding ran run_by run_refused
  run_refuses e asked r given = rw (refused r e given, ← asked) (go (number_of e) (number_some e))
    where
      go :
          (n : ℕ)
          → (n ≡ 0 → ⊥)
          → RunTold (run_by n l s numbers scratch) (record { steps = 0; cost = 0; goal = false; end = Refused n }) s
      go zero d = absurd (d refl)
      go (suc n) d = record { answer = refl; state = refl }

  pub run_goes :
      {r : RunOutcome} {after : List ℕ}
      → 0 ≡ run_refusal l s numbers scratch
      → RunDone (task_of l) s numbers r after
      → RunTold (ran l s numbers scratch) r after
  unfolding ran run_by run_told
  run_goes free done = rw (← free) (record { answer = done.answer; state = done.state })

-- scratch always ends as 0
by_cleared : (n : ℕ) (l : Lent) (s numbers scratch : List ℕ) → cleared scratch ≡ (run_by n l s numbers scratch).scratch
unfolding run_by run_refused run_told
by_cleared zero l s numbers scratch = refl
by_cleared (suc n) l s numbers scratch = refl

pub run_gives :
    (l : Lent) (s numbers scratch : List ℕ) {r : RunOutcome} {after : List ℕ} (mid : List ℕ) {rest : List ℕ}
    → RunTold (ran l s numbers scratch) r after
    → length mid ≡ length scratch
    → rest ≡ cleared mid
    → RunGives (ran l s numbers scratch) r after rest
unfolding ran
run_gives l s numbers scratch mid done same z =
    record {
      answer = done.answer;
      state = done.state;
      scratch =
          z ∙ ap (λ (n : ℕ). replicate n 0) same ∙ by_cleared (run_refusal l s numbers scratch) l s numbers scratch;
    }

-- what `ran` gives, told of itself: for the tactics, which take an equation whose left side shows all of a call
module _ (l : Lent) (s numbers scratch : List ℕ) where
  by_refused :
      (n : ℕ)
      → 0 < n
      → ((run_by n l s numbers scratch).answer ≡ record { steps = 0; cost = 0; goal = false; end = Refused n })
      × ((run_by n l s numbers scratch).state ≡ s)
  unfolding run_by run_refused
  by_refused zero d = absurd (omega arith)
  by_refused (suc n) d = (refl, refl)

  pub ran_refused :
      0 < run_refusal l s numbers scratch
      → (ran l s numbers scratch).answer
      ≡ record { steps = 0; cost = 0; goal = false; end = Refused (run_refusal l s numbers scratch) }
  unfolding ran
  ran_refused d = (by_refused (run_refusal l s numbers scratch) d).0

  pub ran_left : 0 < run_refusal l s numbers scratch → (ran l s numbers scratch).state ≡ s
  unfolding ran
  ran_left d = (by_refused (run_refusal l s numbers scratch) d).1

  pub ran_answer :
      0 ≡ run_refusal l s numbers scratch → (ran l s numbers scratch).answer ≡ run_answer (plain_run (task_of l) s numbers)
  unfolding ran run_by run_told
  ran_answer free = rw (← free) refl

  pub ran_state : 0 ≡ run_refusal l s numbers scratch → (ran l s numbers scratch).state ≡ (plain_run (task_of l) s numbers).state
  unfolding ran run_by run_told
  ran_state free = rw (← free) refl

  pub ran_scratch : (ran l s numbers scratch).scratch ≡ replicate (length scratch) 0
  unfolding ran
  ran_scratch = sym (by_cleared (run_refusal l s numbers scratch) l s numbers scratch)

pub numbered : (e : Refusal) → 0 < number_of e
numbered e = grind (arith, number_some e)

-- Laws of the refusals of a run: which number each way out gives, and what stands once none is given. Assumes nothing.
use Prim.Native.Nat.{ℕ, ◌≤◌, ◌<◌}
use native.Mathlib.Omega.{arith}
use mathlib.Core.Path.{◌≡◌, sym}
use mathlib.Core.List.{List}
use lib.ListN.{length}
use borrow.Author.Tests.{le-leb, lt-leb, leb-true}
use Rattle.task.specs.Table.{Lent}
use Rattle.task.specs.Check.{unless}
use Rattle.operator_step.specs.Inner.Steps.{Ready}
use Rattle.stepper.proofs.Refusing.{first, first_none, rest_none, unless_kept, ready}
use Rattle.plan.specs.Outcome.{sequence_kept, early_refusal, run_refusal}

-- the ways out of `refused_run`
module _ (l : Lent) (s numbers scratch : List ℕ) where
  pub run_refused_early :
      (n : ℕ) → n ≡ early_refusal l s scratch → (n ≡ 0 → ⊥) → n ≡ run_refusal l s numbers scratch
  unfolding run_refusal
  run_refused_early n early d = rw (← early) (first n (unless (sequence_kept numbers) 19 0) d)

  module _ (early : 0 ≡ early_refusal l s scratch) where
    pub run_refused_long : 65535 < length numbers → 19 ≡ run_refusal l s numbers scratch
    unfolding run_refusal sequence_kept
    run_refused_long h = rw (← early, lt-leb (length numbers) 65535 h)

    pub run_not_refused : length numbers ≤ 65535 → 0 ≡ run_refusal l s numbers scratch
    unfolding run_refusal sequence_kept
    run_not_refused h = rw (← early, le-leb (length numbers) 65535 h)

-- nothing refuses a run
module _ (l : Lent) (s numbers scratch : List ℕ) (none : 0 ≡ run_refusal l s numbers scratch) where
  passed : run_refusal l s numbers scratch ≡ 0
  passed = sym none

  early_passed : early_refusal l s scratch ≡ 0
  unfolding run_refusal
  early_passed = first_none (early_refusal l s scratch) (unless (sequence_kept numbers) 19 0) passed

  pub run_ready : Ready l s scratch
  run_ready = ready l s scratch early_passed

  pub short_enough : length numbers ≤ 65535
  unfolding run_refusal sequence_kept
  short_enough =
      leb-true (length numbers) 65535
      (unless_kept (sequence_kept numbers) 19 0 (omega arith)
      (rest_none (early_refusal l s scratch) (unless (sequence_kept numbers) 19 0) passed))

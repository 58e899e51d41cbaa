-- What the cheapest plan's entry for C leaves (02, K1): the number and both outputs at exit, from the file's bytes and the outputs' lengths alone.
use Rattle.std.specs.Prelude.{ℕ, zero, suc, ◌*◌, cond, List, ◌++◌, length, leb, ◌≡◌}
use Rattle.task.specs.declared.Head.{Head}
use Rattle.task.specs.Table.{Task}
use Rattle.task.specs.Check.{unless}
use Rattle.task.specs.Words.{joined, head_of, padded}
use Rattle.file_format.specs.Bytes.{word_bytes}
use Rattle.file_format.specs.Reading.{Verdict, accepted, rejected, reading}
use Rattle.cheapest_plan.specs.Cheapest.{Pick, no_plan, plan_of, cheapest}
use Rattle.cheapest_plan.specs.Planned.{few_variables}
use Rattle.entry_tables.specs.Own.{own}
use Rattle.layouts.specs.Layout.{low_bytes, zeros}

pub record PlanEntry : Type 0 where
  pub number : ℕ
  pub out : List ℕ
  pub result : List ℕ

-- a refusal: both outputs all 0
abbrev pub nothing_planned : (number out result : ℕ) → PlanEntry
nothing_planned k o r = record { number = k; out = zeros o; result = zeros r }

-- a plan's result: its steps in 4 bytes, its cost in 8
unfoldable pub plan_bytes : (steps cost : ℕ) → List ℕ
plan_bytes steps cost = low_bytes 4 steps ++ low_bytes 8 cost

-- a plan: its numbers, two bytes each, and its result; all past them is 0, so the last byte of an out of 5 bytes always is
unfoldable pub plan_laid : (numbers : List ℕ) → (cost out result : ℕ) → PlanEntry
plan_laid numbers cost o r =
    record {
      number = 0;
      out = padded o (joined word_bytes numbers);
      result = padded r (plan_bytes (length numbers) cost);
    }

-- 22, no plan; 23, out is shorter than two bytes a step: 3 bytes are too short for two steps. An empty plan fits every out.
unfoldable pub plan_picked : Pick → (out result : ℕ) → PlanEntry
plan_picked no_plan o r = nothing_planned 22 o r
plan_picked (plan_of numbers cost) o r =
    cond (leb (2 * length numbers) o) (plan_laid numbers cost o r) (nothing_planned 23 o r)

-- what refuses a task that was read before it is searched, with r bytes for the result: 21, then 20. With 11 variables and no result it is 21; of
-- a task without a plan and a result of 11 bytes it is 20.
unfoldable pub plan_number : Head → (r : ℕ) → ℕ
plan_number h r = unless (few_variables h) 21 (unless (leb 12 r) 20 0)

unfoldable pub plan_given : ℕ → Task → (out result : ℕ) → PlanEntry
plan_given zero t o r = plan_picked (cheapest t) o r
plan_given (suc k) t o r = nothing_planned (suc k) o r

unfoldable pub plan_entry_by : Verdict → (out result : ℕ) → PlanEntry
plan_entry_by (accepted t) o r = plan_given (plan_number (head_of t) r) t o r
plan_entry_by (rejected k) o r = nothing_planned k o r

unfoldable pub plan_entry : List ℕ → (out result : ℕ) → PlanEntry
plan_entry file o r = plan_entry_by (reading own file) o r

pub record PlanEntryGives (w : PlanEntry) (r : ℕ) (out result : List ℕ) : Type 0 where
  pub told : r ≡ w.number
  pub written : out ≡ w.out
  pub held : result ≡ w.result

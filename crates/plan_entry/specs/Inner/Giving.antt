-- What the code of the cheapest plan's entry asks, in the terms of specs/Entry.
use Rattle.std.specs.Prelude.{ℕ, ◌+◌, ◌-◌, ◌*◌, ◌^◌, ◌≤◌, ◌≡◌, Bool, ◌&&◌, List, length, leb}
use Rattle.task.specs.declared.Head.{Head}
use Rattle.task.specs.Table.{Lent}
use Rattle.task.specs.Check.{refusal}
use Rattle.layouts.specs.Layout.{zeros}
use Rattle.plan_entry.specs.Entry.{plan_number}

-- both outputs are all 0
pub record Clear (out result : List ℕ) : Type 0 where
  pub out_clear : out ≡ zeros (length out)
  pub result_clear : result ≡ zeros (length result)

-- a search that nothing refuses before it begins
pub record FreePlan (l : Lent) (r : ℕ) : Type 0 where
  pub kept : refusal l ≡ 0
  pub free : plan_number l.head r ≡ 0

-- .. with room for the longest plan and for scratch
pub record PlanIn (l : Lent) (numbers scratch words r : ℕ) : Type 0 where
  pub plan : FreePlan l r
  pub steps : 2 ^ l.head.variables - 1 ≤ numbers
  pub bytes : l.head.formulas + l.head.effects ≤ scratch
  pub states : 4 * 2 ^ l.head.variables ≤ words
  pub few : (numbers ≤ 1023) × (scratch ≤ 8192) × (words ≤ 4096)

-- at most 6 variables, on few rows
unfoldable pub small_plan : Head → Bool
small_plan h = leb h.variables 6 && leb (h.formulas + h.effects) 256

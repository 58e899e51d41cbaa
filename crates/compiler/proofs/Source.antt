-- A source that passes. Assumes nothing.
use Prim.Native.Nat.{◌≤◌}
use native.Mathlib.Omega.{arith}
use mathlib.Core.Path.{◌≡◌}
use lib.ListN.{length}
use Rattle.task.specs.Table.{Lent, task_of}
use Rattle.task.specs.Check.{refusal}
use Rattle.task.specs.Rules.{LongEnough, Checked}
use Rattle.task.proofs.Held.{length_initial, length_effects}
use Rattle.task.proofs.Kept.{kept_rules}

module _ (l : Lent) (passes : refusal l ≡ 0) where
  pub long : LongEnough l
  long = (kept_rules l passes).0

  pub source : Checked (task_of l)
  source = (kept_rules l passes).1

  pub its_variables : length (task_of l).initial ≡ l.head.variables
  its_variables = length_initial l long

  pub few_variables : l.head.variables ≤ 512
  few_variables = omega (arith, source.limits.variables, its_variables)

  pub few_effects : l.head.effects ≤ 4096
  few_effects = omega (arith, source.limits.effects, length_effects l)

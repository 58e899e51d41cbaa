-- The condition of an effect row, with the conditions below it: the row number falls. Assumes nothing.
use Prim.Native.Nat.{◌+◌, ◌*◌}
use Rattle.conditions.proofs.ConditionBuilder.+conditions.Given as goal

abbrev pub decreases-both : goal.decreases-both
decreases-both l = 3 * l.e

abbrev pub decreases-condition : goal.decreases-condition
decreases-condition l = 3 * l.e + 1

abbrev pub decreases-condition_if : goal.decreases-condition_if
decreases-condition_if l = 3 * l.e + 2

abbrev pub decreases-under : goal.decreases-under
decreases-under l = 3 * l.e

-- `build_changes` meets its contract: the changes of all variables are built, and recorded behind those that are; variables that the effect does not
-- touch are passed over. Assumes nothing.
use Prim.Native.Nat.{◌-◌}
use Rattle.operators.proofs.Walks.{WalkingBy}
use Rattle.operators.proofs.walk.build_changes.Given as goal

abbrev pub invariant-loop-v : goal.invariant-loop-v
invariant-loop-v l = WalkingBy l.initial.b l.b l.e l.from l.initial.records l.records l.k l.v

abbrev pub decreases-loop-v : goal.decreases-loop-v
decreases-loop-v l = l.n - l.v

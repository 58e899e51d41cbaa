-- `next_touched` meets its contract: the first variable from one on of which effect e names an atom. Assumes nothing.
use Prim.Native.Nat.{◌-◌}
use Rattle.operators.proofs.Passing.{Searching}
use Rattle.operators.proofs.walk.next_touched.Given as goal

abbrev pub invariant-loop-v : goal.invariant-loop-v
invariant-loop-v l = Searching l.frame l.b.notes.now l.e l.from l.v

abbrev pub decreases-loop-v : goal.decreases-loop-v
decreases-loop-v l = l.frame.variables - l.v

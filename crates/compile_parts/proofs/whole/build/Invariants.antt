-- `build` meets its contract: sets and first operators are found, then begin, the operators batch by batch, and the goal. Assumes nothing.
use Prim.Native.Nat.{◌-◌}
use Rattle.compile_parts.proofs.Parted.{BuildingBy}
use Rattle.compile_parts.proofs.whole.build.Given as goal

abbrev pub invariant-loop-at : goal.invariant-loop-at
invariant-loop-at l = BuildingBy l.fn.b l.b l.operators l.count l.initial.records l.records l.at

abbrev pub decreases-loop-at : goal.decreases-loop-at
decreases-loop-at l = l.count - l.at.operators

-- `unite` meets its contract: the n words at i become those at a together with those at b. Assumes nothing.
use Prim.Native.Nat.{◌%◌, ◌≤◌}
use mathlib.Core.Path.{◌≡◌}
use Rattle.atom_sets.specs.Inner.Finds.{united, Written}
use Rattle.atom_sets.proofs.pass.unite.Given as goal

abbrev pub invariant-loop-k : goal.invariant-loop-k
invariant-loop-k l = (l.k ≤ l.n) × (l.k % 4 ≡ 0) × Written l.k l.i (united l.initial.notes l.a l.b) l.initial.notes l.notes

-- `copy` meets its contract: the n words at i become those at a. Assumes nothing.
use Prim.Native.Nat.{◌%◌, ◌≤◌}
use mathlib.Core.Path.{◌≡◌}
use Rattle.atom_sets.specs.Inner.Finds.{copied, Written}
use Rattle.atom_sets.proofs.pass.copy.Given as goal

abbrev pub invariant-loop-k : goal.invariant-loop-k
invariant-loop-k l = (l.k ≤ l.n) × (l.k % 4 ≡ 0) × Written l.k l.i (copied l.initial.notes l.a) l.initial.notes l.notes
